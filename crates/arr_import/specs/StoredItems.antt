-- How the items of a type are stored ("Arrow Columnar Format", "Physical memory layout").
use Rattle.std.specs.Prelude.{◌≡◌, ℕ, ◌+◌, ◌*◌, ◌/◌, ◌<◌, ◌≤◌, pos, ◌≤ℤ◌, Bool, false, IsTrue, List, length}
use Rattle.data_types.specs.Packed.{IsWidth}
use Rattle.raw_array.specs.promise.Members.{ArrayMembers}
use Rattle.layout_rules.specs.promise.Layout.{natural, offset_in, stored_number, view_width}
use Rattle.layout_rules.specs.Within.{OffsetsRise}
use Rattle.data_types.specs.declared.storage.Storage.{Storage}
use Rattle.data_types.specs.declared.storage.Storage.TheVariants as storages
-- the item of an array whose items are stored so
pub use Rattle.layout_rules.specs.promise.Values.{stored_item}

-- ---- what the buffers have of the item at a place, so that it can be read

-- a number of this many bytes is there
pub record NumberThere (width : ℕ) (signed : Bool) (stored : List ℕ) (place : ℕ) : Type 0 where
  pub width_is : IsWidth width
  pub widest : width ≡ 16 → IsTrue signed
  pub there : (place + 1) * width ≤ length stored

abbrev pub IsThere : Storage → List ℕ → List ℕ → ℕ → Type 0
IsThere storages.Nothing stored text place = Unit {0}
IsThere storages.Truths stored text place = place < 8 * length stored
IsThere (storages.Wholes bits signed) stored text place = NumberThere (bits / 8) signed stored place
IsThere (storages.Floats bits) stored text place = NumberThere (bits / 8) false stored place
IsThere (storages.Sized size) stored text place = (place + 1) * size ≤ length stored
IsThere (storages.Between wide is_text) stored text place = OffsetsRise wide stored place × (offset_in wide stored (place + 1) ≤ℤ pos (length text))
IsThere (storages.Views is_text) stored text place = (place + 1) * view_width ≤ length stored
IsThere (storages.Lists wide) stored text place = OffsetsRise wide stored place
IsThere (storages.FixedLists size) stored text place = Unit {0}
IsThere storages.Children stored text place = Unit {0}

-- lists of items of the one child
abbrev pub IsListStorage : Storage → Type 0
IsListStorage (storages.Lists wide) = Unit {0}
IsListStorage (storages.FixedLists size) = Unit {0}
IsListStorage _ = ⊥

abbrev pub IsViewStorage : Storage → Type 0
IsViewStorage (storages.Views text) = Unit {0}
IsViewStorage _ = ⊥

-- bytes or text between offsets of this width
abbrev pub AreBetween : Bool → Storage → Type 0
AreBetween wide (storages.Between broad text) = broad ≡ wide
AreBetween wide _ = ⊥

-- it has no dictionary
abbrev pub IsOwn : Storage → Type 0
IsOwn (storages.Wholes bits signed) = ⊥
IsOwn _ = Unit {0}

-- what a child of this many items has of the item at a place
abbrev pub AreItemsThere : Storage → List ℕ → ℕ → ℕ → Type 0
AreItemsThere (storages.Lists wide) stored place total = natural (offset_in wide stored (place + 1)) ≤ total
AreItemsThere (storages.FixedLists size) stored place total = (place + 1) * size ≤ total
AreItemsThere _ stored place total = Unit {0}

-- a whole number is an index, which is a place of a dictionary of this many items
abbrev pub IsIndexThere : Storage → ArrayMembers → ℕ → ℕ → ℕ → Type 0
IsIndexThere (storages.Wholes bits signed) own i index total =
    (pos 0 ≤ℤ stored_number (bits / 8) signed own i) × (natural (stored_number (bits / 8) signed own i) ≡ index) × (index < total)
IsIndexThere _ own i index total = ⊥
