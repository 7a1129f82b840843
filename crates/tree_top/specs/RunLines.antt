-- The lines of a column's runs, and how far a walk over run-end encoded items has come.
use Rattle.std.specs.Prelude.{◌≡◌, ◌<◌, ◌≤◌, ◌+◌, ℕ, List, drop, map}
use Rattle.std.specs.List.{flat_map}
use Rattle.data_types.specs.promise.Value.{Value}
use Rattle.layout_rules.specs.promise.Layout.{items}
use Rattle.raw_array.specs.promise.Members.{ArrayTree, members_of}
use Rattle.run_ends.specs.promise.RunCoding.{runs_from}
use Rattle.run_ends.specs.promise.Runs.{RunTree, run_of}
use Rattle.data_types.specs.NumberedTexts.{numbered_line}
use Rattle.tree_top.specs.AnswerParts.{numbered_run}

-- those of the runs from an item on
abbrev pub run_lines : ℕ → List Value → List ℕ
run_lines at values = flat_map numbered_line (map numbered_run (runs_from at (drop at values)))

-- from item i on this run lies, before the item `stop`, and the next one there
pub record Reaches (u : RunTree) (array : ArrayTree) (i run stop : ℕ) : Type 0 where
  pub ordered : i ≤ stop
  pub within : stop ≤ items (members_of array)
  pub same : (j : ℕ) → i ≤ j → j < stop → run_of u array j ≡ run
  pub next : stop < items (members_of array) → run_of u array stop ≡ run + 1
