-- Children of an array that can be moved out of it ("The Arrow C Data Interface", "Moving child arrays").
use Rattle.std.specs.Prelude.{◌<◌, ◌≤ℤ◌, ℕ, pos, length}
use Rattle.tree_model.specs.promise.TreeParts.{IsLive, children_of, child_at}
use Rattle.raw_array.specs.promise.Members.{ArrayTree, members_of}
use Rattle.raw_array.specs.Windows.{FitsWindow}

-- a live array whose children have the items that it shows
pub record ShowsChildren (t : ArrayTree) : Type 0 where
  pub live : IsLive t
  pub placed : pos 0 ≤ℤ (members_of t).offset
  pub sized : pos 0 ≤ℤ (members_of t).length
  pub fit : (k : ℕ) → k < length (children_of t) → FitsWindow (child_at t k) (members_of t).offset (members_of t).length
