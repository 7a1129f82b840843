-- What holds of a lawful array whose type is there: at its root, of its parts, and of its items.
use Rattle.std.specs.Prelude.{◌≡◌, ℕ, ◌+◌, ◌<◌, ◌≤◌, ◌≤ℤ◌, pos, length, Some, None}
use Rattle.data_types.specs.declared.kind.DataType.TheVariants as kinds
use Rattle.tree_model.specs.promise.TreeParts.{IsLive, children_of, dictionary_of, child_at}
use Rattle.raw_array.specs.promise.Members.{ArrayTree, members_of}
use Rattle.data_types.specs.promise.KindTrees.{KindTree, kind_in}
use Rattle.layout_rules.specs.promise.Layout.{layout_of, buffer_count, first, items, end}
use Rattle.layout_rules.specs.Layout.{IsLongIfPresent}
use Rattle.layout_rules.specs.promise.Rules.{one_if, items_need, null_total, window_limit}
use Rattle.layout_rules.specs.promise.Walk.{LayoutOk}
use Rattle.layout_rules.specs.promise.Values.{tree_items}
use Rattle.layout_rules.specs.Within.{StoredWithin, ViewWithin, ItemsWithin, IndexWithin}

pub record RootHolds (typed : KindTree) (array : ArrayTree) : Type 0 where
  pub live : IsLive array
  pub sized : pos 0 ≤ℤ (members_of array).length
  pub placed : pos 0 ≤ℤ (members_of array).offset
  pub many : tree_items array ≡ items (members_of array)
  pub near : end (members_of array) ≤ window_limit
  pub counted : length (members_of array).buffers ≡ buffer_count (layout_of (kind_in typed)) (length (members_of array).buffers)
  pub long : IsLongIfPresent (members_of array)
  pub kids : length (children_of array) ≡ length (children_of typed)
  pub dict : one_if (dictionary_of array) ≡ one_if (dictionary_of typed)

-- a child, or a dictionary, is lawful under its own type
pub record PartsHold (typed : KindTree) (array : ArrayTree) : Type 0 where
  pub kids : (k : ℕ) → k < length (children_of typed) → LayoutOk (child_at typed k) (child_at array k)
  pub few : (k : ℕ) → IsLive (child_at typed k) → tree_items (child_at array k) ≤ window_limit
  pub dict : (type : KindTree) (dictionary : ArrayTree) → dictionary_of typed ≡ Some type → dictionary_of array ≡ Some dictionary → LayoutOk type dictionary

-- what is read of an item lies within the buffers, the children and the dictionary
pub record ItemsHold (typed : KindTree) (array : ArrayTree) : Type 0 where
  pub stored : (i : ℕ) → i < tree_items array → StoredWithin (layout_of (kind_in typed)) (members_of array) (first (members_of array) + i)
  pub needed : (k : ℕ) → IsLive (child_at typed k) → items_need (layout_of (kind_in typed)) (members_of array) ≤ tree_items (child_at array k)
  pub kids : (i k : ℕ) → i < tree_items array → IsLive (child_at typed k)
      → ItemsWithin (layout_of (kind_in typed)) (members_of array) (first (members_of array) + i) (tree_items (child_at array k))
  pub views : (i : ℕ) → i < tree_items array → ViewWithin (layout_of (kind_in typed)) (members_of array) i
  pub index : (i : ℕ) (type : KindTree) (dictionary : ArrayTree) → i < tree_items array
      → dictionary_of typed ≡ Some type → IsLive type → dictionary_of array ≡ Some dictionary → IndexWithin (kind_in typed) (members_of array) i dictionary

-- a chunk is a struct without a dictionary, and none of its rows is null
pub record ChunkHolds (typed : KindTree) (array : ArrayTree) : Type 0 where
  pub kind : kind_in typed ≡ kinds.Struct
  pub dict : dictionary_of typed ≡ None
  pub nulls : null_total (members_of array) (items (members_of array)) ≡ 0
