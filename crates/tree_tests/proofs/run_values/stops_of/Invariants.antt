use Rattle.std.proofs.Common.{◌-◌}
use Rattle.tree_tests.proofs.run_values.stops_of.Given as goal

abbrev pub decreases-loop-i : goal.decreases-loop-i
decreases-loop-i g l = l.count - l.i
