use Rattle.std.proofs.Common.{take}
use Rattle.col_build.specs.Holding.{Holds}
use Rattle.column_fill.specs.Gathered.{shown_at}
use Rattle.column_fill.proofs.numbers.gathered_of_storage.Given as goal

-- the builder holds the items of the numbers so far
abbrev pub invariant-loop-i : goal.invariant-loop-i
invariant-loop-i l = Holds l.builder l.kind (shown_at l.items l.start (take l.i-index l.kept))
