use Rattle.std.proofs.Common.{◌≤◌, ◌-◌, length}
use Rattle.run_ends.specs.ColumnRuns.{values_in}
use Rattle.run_ends.specs.RunMaking.{HoldsUpTo}
use Rattle.run_ends.proofs.encoder.filled.Given as goal

-- the runs of the items so far
abbrev pub invariant-loop-at : goal.invariant-loop-at
invariant-loop-at l = (l.at ≤ length (values_in l.runs)) × HoldsUpTo l.making l.kind (values_in l.runs) l.at

abbrev pub decreases-loop-at : goal.decreases-loop-at
decreases-loop-at l = l.count - l.at
