use Rattle.std.proofs.Common.{◌≡◌, ◌++◌, ◌-◌}
use Rattle.std.specs.List.{flat_map}
use Rattle.layout_rules.specs.promise.Values.{each}
use Rattle.run_ends.specs.RunCols.{array_in, kinds_in}
use Rattle.run_ends.specs.Runs.{run_value}
use Rattle.data_types.specs.promise.ValueTexts.{value_line}
use Rattle.tree_top.proofs.flat.push_run.Given as goal

-- the lines so far
abbrev pub invariant-loop-j : goal.invariant-loop-j
invariant-loop-j l = l.text ≡ l.initial.text ++ flat_map value_line (each (run_value (kinds_in l.col) (array_in l.col)) l.i (l.j - l.i))
