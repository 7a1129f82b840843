-- Unions ("Arrow Columnar Format", "Union Layout"): where an item is, and its value.
use Rattle.std.specs.Prelude.{◌≡◌, ℕ, ◌+◌, Bool, if◌then◌else◌, length, get_or, All}
use Rattle.tree_model.specs.promise.TreeData.{Released}
use Rattle.raw_array.specs.promise.Members.{ArrayMembers, ArrayTree, members_of}
use Rattle.data_types.specs.KindTrees.{TypedOk}
use Rattle.data_types.specs.promise.KindTrees.{KindTree}
use Rattle.layout_rules.specs.promise.Layout.{first, natural}
use Rattle.union_cols.specs.promise.UnionFormats.{AreIds, UnionFormat}
use Rattle.union_cols.specs.promise.Unions.{UnionItem, UnionTree, id_at, start_at, union_value}

-- what every call asks of them
pub record UnionTypedOk (u : UnionTree) : Type 0 where
  pub same : length u.ids ≡ length u.kids
  pub ids_are : AreIds u.ids
  pub kids_are : All TypedOk u.kids

abbrev pub format_of : UnionTree → UnionFormat
format_of u = record { dense = u.dense; ids = u.ids }

-- ---- the parts of an item

-- the number of the item in that child: the stored offset, or in a sparse union the item's own place
abbrev pub item_number : Bool → ArrayMembers → ℕ → ℕ
item_number dense own i = if dense then natural (start_at own i) else first own + i

abbrev pub kid_at : UnionTree → ℕ → KindTree
kid_at u k = get_or u.kids k Released

abbrev pub union_item : UnionTree → ArrayTree → ℕ → UnionItem
union_item u array i = record { id = id_at (members_of array) i; value = union_value u array i }
