use Rattle.std.proofs.Common.{take}
use Rattle.col_build.specs.Holding.{Holds}
use Rattle.data_types.specs.promise.Table.{Flat}
use Rattle.data_types.specs.promise.ColumnKinds.{type_of_kind}
use Rattle.column_fill.specs.Gathered.{values_at}
use Rattle.column_fill.proofs.numbers.gathered_items.Given as goal

-- the builder holds the items of the numbers so far
abbrev pub invariant-loop-i : goal.invariant-loop-i
invariant-loop-i l = Holds l.builder l.kind (values_at (type_of_kind (Flat l.kind)) l.array l.start (take l.i-index l.kept))
