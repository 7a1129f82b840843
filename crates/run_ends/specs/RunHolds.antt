-- What holds of a run-end encoded array at which no rule fails.
use Rattle.std.specs.Prelude.{◌≡◌, ℕ, Bool, true, false, ◌<◌, ◌≤◌, pos}
use Rattle.tree_model.specs.promise.TreeParts.{child_at}
use Rattle.raw_array.specs.promise.Members.{ArrayTree, members_of}
use Rattle.layout_rules.specs.promise.Layout.{end, natural}
use Rattle.layout_rules.specs.promise.Rules.{window_limit}
use Rattle.layout_rules.specs.promise.Walk.{LayoutOk}
use Rattle.root_check.specs.OwnRules.{OwnHolds}
use Rattle.run_ends.specs.promise.Runs.{RunTree, Ends, ends_in, run_count, run_end, end_before}
use Rattle.run_ends.specs.Runs.{value_count}

-- an end is above the one before it, and so above 0
pub record EndHolds (ends : Ends) (k : ℕ) : Type 0 where
  pub is : run_end ends k ≡ pos (natural (run_end ends k))
  pub rises : natural (end_before ends k) < natural (run_end ends k)

pub record RunsHold (u : RunTree) (array : ArrayTree) : Type 0 where
  pub own : OwnHolds 0 2 array
  pub ends : LayoutOk u.ends (child_at array 0)
  pub values : LayoutOk u.values (child_at array 1)
  pub each : (k : ℕ) → k < run_count array → EndHolds (ends_in u array) k
  -- each item lies in a run, and each run has a value
  pub covered : end (members_of array) ≤ natural (end_before (ends_in u array) (run_count array))
  pub valued : run_count array ≤ value_count array
  pub near : end (members_of array) ≤ window_limit

-- a search in the making: of numbers below n, something holds of none below `low`, and of each from `high` on
pub record Parted (f : ℕ → Bool) (n low high : ℕ) : Type 0 where
  pub ordered : low ≤ high
  pub inside : high ≤ n
  pub below : (i : ℕ) → i < low → f i ≡ false
  pub from : (i : ℕ) → high ≤ i → i < n → f i ≡ true
