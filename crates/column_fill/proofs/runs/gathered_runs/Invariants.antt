use Rattle.std.proofs.Common.{take}
use Rattle.col_build.specs.Holding.{Holds}
use Rattle.data_types.specs.promise.Table.{Flat}
use Rattle.data_types.specs.promise.ColumnKinds.{type_of_kind}
use Rattle.column_fill.specs.Gathered.{values_of_runs}
use Rattle.column_fill.proofs.runs.gathered_runs.Given as goal

-- the builder holds the items of the runs so far
abbrev pub invariant-loop-run : goal.invariant-loop-run
invariant-loop-run l = Holds l.builder l.kind (values_of_runs (type_of_kind (Flat l.kind)) l.array (take l.run-index l.runs))
