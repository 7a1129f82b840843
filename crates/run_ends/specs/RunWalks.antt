-- A walk over the items of runs, run by run.
use Rattle.std.specs.Prelude.{◌≡◌, ℕ, ◌<◌}
use Rattle.raw_array.specs.promise.Members.{ArrayTree, members_of}
use Rattle.layout_rules.specs.promise.Layout.{items}
use Rattle.run_ends.specs.promise.Runs.{RunTree, run_of}

-- the run of an item, where there is such an item
abbrev pub ReachesRun : RunTree → ArrayTree → ℕ → ℕ → Type 0
ReachesRun u array i run = i < items (members_of array) → run_of u array i ≡ run
