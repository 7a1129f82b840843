-- A column as contracts see it: a window over the items of an array, which are themselves those of the array's own window
-- ("Arrow Columnar Format", "Physical memory layout").
use Rattle.std.specs.Prelude.{◌≡◌, ℕ, ◌+◌, ◌/◌, List, Option, Some, if◌then◌else◌}
use Rattle.data_types.specs.declared.kind.DataType.{DataType}
use Rattle.data_types.specs.declared.kind.DataType.TheVariants as kinds
use Rattle.data_types.specs.promise.Value.{Value, values}
use Rattle.data_types.specs.promise.Value.Value.{Fields}
use Rattle.tree_model.specs.promise.TreeData.{Live, present}
use Rattle.tree_model.specs.promise.TreeParts.{child_at}
use Rattle.raw_array.specs.promise.Members.{ArrayMembers, ArrayTree, members_of}
use Rattle.data_types.specs.promise.KindTrees.{KindTree}
use Rattle.layout_rules.specs.promise.Layout.{first, natural, is_valid, stored_number}
use Rattle.layout_rules.specs.promise.Values.{each, value_at, row_items, tree_items}

-- this many items of an array with its kinds, from the item `start` of the array's window on
pub record Window : Type 0 where
  pub typed : KindTree
  pub array : ArrayTree
  pub start : ℕ
  pub count : ℕ

-- all items of an array
abbrev pub whole : KindTree → ArrayTree → Window
whole typed array = record { typed = typed; array = array; start = 0; count = tree_items array }

-- item i of a window
abbrev pub item_at : Window → ℕ → Value
item_at w i = value_at w.typed w.array (w.start + i)

-- its items in order
abbrev pub items_of : Window → List Value
items_of w = each (value_at w.typed w.array) w.start w.count

-- the items of a struct's child k that its window takes
abbrev pub child_window : Window → ℕ → Window
child_window w k = record { typed = child_at w.typed k; array = child_at w.array k; start = first (members_of w.array) + w.start; count = w.count }

-- ---- where an item is once its dictionaries are followed

pub record Home : Type 0 where
  pub window : Window
  pub place : ℕ

-- the index that stands for item i of an array
abbrev pub index_at : DataType → ArrayMembers → ℕ → ℕ
index_at (kinds.Int bits signed) own i = natural (stored_number (bits / 8) signed own i)
index_at _ own i = 0

-- item i of a window, where that has no dictionary or the index is null; else the home of the dictionary's item at the index
abbrev pub home_from : KindTree → ArrayTree → ℕ → ℕ → ℕ → Home
home_from (Live kind kids (present dict)) (Live own children (present dictionary)) start count i =
    if is_valid own (start + i) then home_from dict dictionary 0 (tree_items dictionary) (index_at kind own (start + i))
    else record {
      window = record { typed = Live kind kids (present dict); array = Live own children (present dictionary); start = start; count = count };
      place = i;
    }
home_from typed array start count i = record { window = record { typed = typed; array = array; start = start; count = count }; place = i }

abbrev pub home_of : Window → ℕ → Home
home_of w i = home_from w.typed w.array w.start w.count i

-- a window is all items of an array's dictionary
pub record IsDictionary (w : Window) (dict : Option KindTree) (dictionary : Option ArrayTree) : Type 0 where
  pub typed : dict ≡ Some w.typed
  pub array : dictionary ≡ Some w.array
  pub whole : w ≡ whole w.typed w.array

-- ---- structs

abbrev pub IsStruct : KindTree → Type 0
IsStruct (Live kinds.Struct kids dict) = Unit {0}
IsStruct _ = ⊥

abbrev pub IsStructValue : Value → Type 0
IsStructValue (Fields fields) = Unit {0}
IsStructValue _ = ⊥

-- a value that is a struct's is the row of the children's items at a place of a window
pub record IsRow (w : Window) (i : ℕ) (v : Value) : Type 0 where
  pub is_struct : IsStruct w.typed
  pub fields : v ≡ Fields (values (row_items w.typed w.array (w.start + i)))
