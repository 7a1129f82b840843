use Rattle.std.proofs.Common.{◌-◌}
use Rattle.run_ends.specs.RunCols.{array_in, kinds_in}
use Rattle.run_ends.proofs.ItemsWalked.{Lists, Walked}
use Rattle.run_ends.proofs.decoder.listed.Given as goal

-- the runs of the items so far
abbrev pub invariant-loop-at : goal.invariant-loop-at
invariant-loop-at l = Walked (kinds_in l.col) (array_in l.col) l.at l.run × Lists (kinds_in l.col) (array_in l.col) l.runs.items l.at

abbrev pub decreases-loop-at : goal.decreases-loop-at
decreases-loop-at l = l.count - l.at
