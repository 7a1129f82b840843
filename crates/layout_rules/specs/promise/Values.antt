-- The values of a lawful array ("Arrow Columnar Format").
use Rattle.std.specs.Prelude.{ℕ, zero, suc, ◌+◌, ◌-◌, ◌*◌, ◌/◌, Bool, false, ◌==◌, if◌then◌else◌, List, [], ◌∷◌, Option, Some, None, take, drop}
use Rattle.data_types.specs.declared.kind.DataType.{DataType}
use Rattle.data_types.specs.declared.kind.DataType.TheVariants as kinds
use Rattle.data_types.specs.declared.storage.Storage.{Storage}
use Rattle.data_types.specs.declared.storage.Storage.TheVariants as stored
use Rattle.data_types.specs.promise.Storage.{storage_of}
use Rattle.data_types.specs.promise.Packed.{bit}
use Rattle.data_types.specs.promise.Table.{Row}
use Rattle.data_types.specs.promise.Value.{Value, values}
use Rattle.data_types.specs.promise.Value.Value.{Null, Truth, Whole, Bits, Bytes, Items, Fields}
use Rattle.tree_model.specs.promise.TreeData.{Released, Live, Trees, no_trees, more_trees, MaybeTree, absent, present, tree_list, option_tree}
use Rattle.raw_array.specs.promise.Members.{ArrayMembers, ArrayTree}
use Rattle.data_types.specs.promise.KindTrees.{KindTree}
use Rattle.layout_rules.specs.promise.Layout.{first, items, bytes, is_valid, natural, offset, data_of, stored_number}
use Rattle.layout_rules.specs.promise.Views.{view_data}

-- f at each of the numbers from a on, this many of them
abbrev pub each : {X : Type 0} → (ℕ → X) → ℕ → ℕ → List X
each f a zero = []
each f a (suc n) = f a ∷ each f (suc a) n

-- ---- any item

-- what reads an item of an array, counted from 0 in the array's window
abbrev pub Reader : Type 0
Reader = ArrayTree → ℕ → Value

-- an item of the one child
abbrev pub child_item : List Reader → List ArrayTree → ℕ → Value
child_item [] children k = Null
child_item (read ∷ others) [] k = Null
child_item (read ∷ others) (child ∷ rest) k = read child k

-- an item of each child
abbrev pub field_items : List Reader → List ArrayTree → ℕ → List Value
field_items [] children k = []
field_items (read ∷ others) [] k = []
field_items (read ∷ others) (child ∷ rest) k = read child k ∷ field_items others rest k

abbrev pub dictionary_item : Reader → Option ArrayTree → ℕ → Value
dictionary_item read None k = Null
dictionary_item read (Some dictionary) k = read dictionary k

-- the child's items between the offsets of an item
abbrev pub listed : Bool → List Reader → ArrayMembers → List ArrayTree → ℕ → Value
listed wide kids a children i =
    let here = natural (offset wide a (first a + i)) in
    let next = natural (offset wide a (first a + i + 1)) in
    Items (values (each (child_item kids children) here (next - here)))

-- an item that isn't null, by how the items are stored
abbrev pub stored_item : Storage → List Reader → ArrayMembers → List ArrayTree → ℕ → Value
stored_item stored.Nothing kids a children i = Null
stored_item stored.Truths kids a children i = Truth (bit (bytes a 1) (first a + i) == 1)
stored_item (stored.Wholes bits signed) kids a children i = Whole (stored_number (bits / 8) signed a i)
stored_item (stored.Floats bits) kids a children i = Bits (natural (stored_number (bits / 8) false a i))
stored_item (stored.Sized size) kids a children i = Bytes (take size (drop ((first a + i) * size) (bytes a 1)))
stored_item (stored.Between wide text) kids a children i = Bytes (data_of wide a i)
stored_item (stored.Views text) kids a children i = Bytes (view_data a i)
stored_item (stored.Lists wide) kids a children i = listed wide kids a children i
stored_item (stored.FixedLists size) kids a children i = Items (values (each (child_item kids children) ((first a + i) * size) size))
stored_item stored.Children kids a children i = Fields (values (field_items kids children (first a + i)))

-- ---- the items of an array
-- the item of an array with a dictionary is the dictionary's item at the stored index
abbrev pub item_or_entry : Option Reader → DataType → List Reader → ArrayMembers → List ArrayTree → Option ArrayTree → ℕ → Value
item_or_entry None kind kids a children dictionary i = stored_item (storage_of kind) kids a children i
item_or_entry (Some read) (kinds.Int width signed) kids a children dictionary i =
    dictionary_item read dictionary (natural (stored_number (width / 8) signed a i))
item_or_entry (Some read) _ kids a children dictionary i = Null

abbrev pub read_item : DataType → List Reader → Option Reader → ArrayTree → ℕ → Value
read_item kind kids dict Released i = Null
read_item kind kids dict (Live a children dictionary) i =
    if is_valid a i then item_or_entry dict kind kids a (tree_list children) (option_tree dictionary) i else Null

abbrev mutual
  -- item i of an array's window
  pub value_at : KindTree → Reader
  value_at Released = λ array i. Null
  value_at (Live kind kids dict) = read_item kind (readers kids) (reader_of dict)

  pub readers : Trees DataType → List Reader
  readers no_trees = []
  readers (more_trees kid kids) = value_at kid ∷ readers kids

  pub reader_of : MaybeTree DataType → Option Reader
  reader_of absent = None
  reader_of (present dict) = Some (value_at dict)

abbrev pub tree_items : ArrayTree → ℕ
tree_items Released = 0
tree_items (Live a children dictionary) = items a

-- The values of an array: the items of its window, in order.
abbrev pub values_of : KindTree → ArrayTree → List Value
values_of typed array = each (value_at typed array) 0 (tree_items array)

-- ---- the rows of a struct: of each item of its window, the item of each child

abbrev pub row_items : KindTree → ArrayTree → ℕ → List Value
row_items Released array i = []
row_items (Live kind kids dict) Released i = []
row_items (Live kind kids dict) (Live a children dictionary) i = field_items (readers kids) (tree_list children) (first a + i)

abbrev pub rows_of : KindTree → ArrayTree → List Row
rows_of typed array = each (row_items typed array) 0 (tree_items array)
