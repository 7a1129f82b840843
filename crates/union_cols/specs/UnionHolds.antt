-- What holds of a union's array at which no rule fails.
use Rattle.std.specs.Prelude.{◌≡◌, ℕ, ◌*◌, ◌<◌, ◌≤◌, Bool, IsTrue, length, Some, pos, ◌≤ℤ◌}
use Rattle.std.specs.List.{AllZip}
use Rattle.tree_model.specs.promise.TreeParts.{child_at, children_of}
use Rattle.raw_array.specs.promise.Members.{ArrayMembers, ArrayTree, members_of}
use Rattle.layout_rules.specs.promise.Layout.{items, end, bytes}
use Rattle.layout_rules.specs.promise.Rules.{window_limit}
use Rattle.layout_rules.specs.promise.Values.{tree_items}
use Rattle.layout_rules.specs.promise.Walk.{LayoutOk}
use Rattle.root_check.specs.OwnRules.{OwnHolds}
use Rattle.union_cols.specs.promise.Unions.{UnionTree, id_at, start_at, child_of, child_number}
use Rattle.union_cols.specs.Unions.{item_number}
use Rattle.union_cols.specs.UnionRules.{buffer_count}

-- the buffers have an id, and an offset where the union is dense, for each place up to the window's end
pub record IsReadable (dense : Bool) (own : ArrayMembers) : Type 0 where
  pub ids : end own ≤ length (bytes own 0)
  pub starts : IsTrue dense → 4 * end own ≤ length (bytes own 1)

-- an item names a child, and is one of the child's items
pub record ItemHolds (u : UnionTree) (array : ArrayTree) (i : ℕ) : Type 0 where
  pub named : child_of u.ids (id_at (members_of array) i) ≡ Some (child_number u.ids (members_of array) i)
  pub child : child_number u.ids (members_of array) i < length u.kids
  pub start : IsTrue u.dense → pos 0 ≤ℤ start_at (members_of array) i
  pub inside : item_number u.dense (members_of array) i < tree_items (child_at array (child_number u.ids (members_of array) i))

pub record UnionHolds (u : UnionTree) (array : ArrayTree) : Type 0 where
  pub own : OwnHolds (buffer_count u.dense) (length u.kids) array
  pub readable : IsReadable u.dense (members_of array)
  pub children : AllZip LayoutOk u.kids (children_of array)
  pub each : (i : ℕ) → i < items (members_of array) → ItemHolds u array i
  pub near : end (members_of array) ≤ window_limit
