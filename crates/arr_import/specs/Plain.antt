-- Columns that are read with nothing to look up but the place: their items are stored in place or between offsets ("Arrow
-- Columnar Format", "Validity bitmaps", "Fixed-size primitive layout" and "Variable-size binary layout").
use Rattle.std.specs.Prelude.{◌≡◌, ◌==◌, ℕ, ◌+◌, ◌-◌, ◌*◌, ◌/◌, ◌<◌, Bool, List, Option, None, Some, length, take, drop, if◌then◌else◌}
use Rattle.data_types.specs.promise.Storage.{storage_of}
use Rattle.data_types.specs.declared.storage.Storage.{Storage}
use Rattle.data_types.specs.declared.storage.Storage.TheVariants as storages
use Rattle.data_types.specs.promise.Value.{Value}
use Rattle.data_types.specs.promise.Value.Value.{Null, Truth, Whole, Bits, Bytes}
use Rattle.data_types.specs.promise.Packed.{bit, meant, number_at}
use Rattle.tree_model.specs.promise.TreeParts.{dictionary_of}
use Rattle.data_types.specs.promise.KindTrees.{kind_in}
use Rattle.layout_rules.specs.promise.Layout.{is_valid_by, natural, offset_in}
use Rattle.arr_import.specs.declared.plain.Plain.{Plain}
use Rattle.arr_import.specs.Lent.{lent_bytes}
use Rattle.arr_import.specs.StoredItems.{IsThere}
use Rattle.arr_import.specs.Window.{Window}
use Rattle.layout_rules.specs.promise.Rules.{window_limit}

-- ---- which windows are such columns

abbrev pub IsPlainStorage : Storage → Type 0
IsPlainStorage storages.Truths = Unit {0}
IsPlainStorage (storages.Wholes bits signed) = Unit {0}
IsPlainStorage (storages.Floats bits) = Unit {0}
IsPlainStorage (storages.Sized size) = Unit {0}
IsPlainStorage (storages.Between wide text) = Unit {0}
IsPlainStorage _ = ⊥

-- their items are no indices of a dictionary
pub record IsPlain (w : Window) : Type 0 where
  pub stored : IsPlainStorage (storage_of (kind_in w.typed))
  pub own : dictionary_of w.typed ≡ None

-- ---- what such a column shows

-- the data between the offset at a place and the next
abbrev pub text_between : Bool → List ℕ → List ℕ → ℕ → List ℕ
text_between wide offsets text place =
    let here = natural (offset_in wide offsets place) in
    let next = natural (offset_in wide offsets (place + 1)) in
    take (next - here) (drop here text)

-- the value at a place of what is stored so
abbrev pub stored_value : Storage → List ℕ → List ℕ → ℕ → Value
stored_value storages.Truths stored text place = Truth (bit stored place == 1)
stored_value (storages.Wholes bits signed) stored text place = Whole (meant (bits / 8) signed (number_at stored (place * (bits / 8)) (bits / 8)))
stored_value (storages.Floats bits) stored text place = Bits (number_at stored (place * (bits / 8)) (bits / 8))
stored_value (storages.Sized size) stored text place = Bytes (take size (drop (place * size) stored))
stored_value (storages.Between wide is_text) stored text place = Bytes (text_between wide stored text place)
stored_value _ stored text place = Null

abbrev pub storage_in : Plain → Storage
storage_in plain = plain.storage

-- whether its validity bit is set, or there are none
abbrev pub is_valid_in : Plain → ℕ → Bool
is_valid_in plain i = is_valid_by (lent_bytes plain.validity) (plain.first + i)

-- what item i is where it isn't null
abbrev pub valid_item : Plain → ℕ → Value
valid_item plain i = stored_value plain.storage plain.stored.now plain.text.now (plain.first + i)

-- the bit at a place is there, where there are bits
abbrev pub IsBitThere : Option (List ℕ) → ℕ → Type 0
IsBitThere None place = Unit {0}
IsBitThere (Some bits) place = place < 8 * length bits

-- item i can be read
pub record IsItemThere (plain : Plain) (i : ℕ) : Type 0 where
  pub near : plain.first + i < window_limit
  pub validity : IsBitThere (lent_bytes plain.validity) (plain.first + i)
  pub there : IsThere plain.storage plain.stored.now plain.text.now (plain.first + i)

-- this many items, each by its number
pub record ShowsItems (plain : Plain) (count : ℕ) (item : ℕ → Value) : Type 0 where
  pub there : (i : ℕ) → i < count → IsItemThere plain i
  pub items : (i : ℕ) → i < count → item i ≡ (if is_valid_in plain i then valid_item plain i else Null)
