use Rattle.std.proofs.Common.{◌≡◌, ◌≤◌, ◌++◌, ◌-◌, length}
use Rattle.run_ends.specs.ColumnRuns.{values_in}
use Rattle.tree_top.specs.RunLines.{run_lines}
use Rattle.tree_top.proofs.runs.push_runs.Given as goal

-- the lines of the runs from the item on are to come
abbrev pub invariant-loop-at : goal.invariant-loop-at
invariant-loop-at l = (l.at ≤ length (values_in l.runs)) × (l.text ++ run_lines l.at (values_in l.runs) ≡ l.initial.text ++ run_lines 0 (values_in l.runs))

abbrev pub decreases-loop-at : goal.decreases-loop-at
decreases-loop-at l = l.count - l.at
