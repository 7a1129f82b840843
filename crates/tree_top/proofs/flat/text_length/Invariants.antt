use Rattle.std.proofs.Common.{◌≡◌, ◌+◌, ◌-◌, ◌≤◌, length}
use Rattle.std.specs.List.{flat_map}
use Rattle.layout_rules.specs.promise.Values.{each}
use Rattle.run_ends.specs.RunCols.{array_in, kinds_in}
use Rattle.run_ends.specs.Runs.{run_value}
use Rattle.value_text.specs.Lengths.{capped}
use Rattle.data_types.specs.promise.ValueTexts.{value_line}
use Rattle.tree_top.specs.RunLines.{Reaches}
use Rattle.tree_top.proofs.flat.text_length.Given as goal

-- the lines so far, behind that of `ok`, and the run that the walk is in
abbrev pub invariant-loop-i : goal.invariant-loop-i
invariant-loop-i l =
    (l.sum ≡ capped (3 + length (flat_map value_line (each (run_value (kinds_in l.col) (array_in l.col)) 0 l.i))))
    × Reaches (kinds_in l.col) (array_in l.col) l.i l.at.run l.at.stop
    × (l.i ≤ l.count)

abbrev pub decreases-loop-i : goal.decreases-loop-i
decreases-loop-i l = l.count - l.i
