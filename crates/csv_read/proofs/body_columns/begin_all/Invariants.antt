use Rattle.csv_read.proofs.EmptiedBuilders.{EmptiedSoFar}
use Rattle.csv_read.proofs.body_columns.begin_all.Given as goal

-- the first builders are begun anew, and the others are as they were
abbrev pub invariant-loop-j : goal.invariant-loop-j
invariant-loop-j l = EmptiedSoFar l.j l.initial.builders l.builders
