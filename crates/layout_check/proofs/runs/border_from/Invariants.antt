use Rattle.std.proofs.Common.{length, ◌-◌}
use Rattle.layout_check.proofs.runs.border_from.Given as goal

abbrev pub decreases-loop-at : goal.decreases-loop-at
decreases-loop-at l = length l.text - l.at
