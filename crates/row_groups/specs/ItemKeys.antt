-- The keys of a column's items: numbers by the bytes that they are stored in, truth values by one byte, and bytes as they are.
use Rattle.std.specs.Prelude.{◌≡◌, ◌<◌, ◌/◌, ◌==◌, ◌⊎◌, ℕ, List, [], ◌∷◌, length, get_or, None, Some}
use Rattle.data_types.specs.ColumnForms.{HasForm}
use Rattle.data_types.specs.promise.FieldText.{form_of}
use Rattle.data_types.specs.promise.Storage.{storage_of}
use Rattle.data_types.specs.promise.Table.{Flat}
use Rattle.data_types.specs.promise.Value.{Value, Null, Truth, Whole, Bits, Bytes}
use Rattle.data_types.specs.declared.storage.Storage.{Storage}
use Rattle.data_types.specs.declared.storage.Storage.TheVariants as storages
use Rattle.data_types.specs.promise.Packed.{le_number, meant}
use Rattle.raw_array.specs.promise.Members.{ArrayTree}
use Rattle.data_types.specs.promise.ColumnKinds.{type_of_kind}
use Rattle.data_types.specs.promise.KindTrees.{KindTree, kind_in}
use Rattle.data_types.specs.KindTrees.{TypedOk}
use Rattle.data_types.specs.promise.TypedView.{typed_of}
use Rattle.layout_rules.specs.promise.Values.{value_at}
use Rattle.layout_rules.specs.promise.Walk.{LayoutOk}
use Rattle.arr_import.specs.Cols.{window_of}
use Rattle.arr_import.specs.Window.{whole}
use Rattle.row_groups.specs.Numbering.{Key}
use Rattle.row_groups.specs.declared.column.Column.{Column}

-- the value of a key, where values are stored so
abbrev pub value_of : Key → Storage → Value
value_of None storage = Null
value_of (Some text) storages.Truths = Truth (get_or text 0 0 == 1)
value_of (Some text) (storages.Wholes bits signed) = Whole (meant (bits / 8) signed (le_number text))
value_of (Some text) (storages.Floats bits) = Bits (le_number text)
value_of (Some text) (storages.Sized size) = Bytes text
value_of (Some text) (storages.Between wide is_text) = Bytes text
value_of (Some text) _ = Null

-- the bytes of a number
pub record AreNumberBytes (width : ℕ) (text : List ℕ) : Type 0 where
  pub long : length text ≡ width
  pub bytes : (i : ℕ) → get_or text i 0 < 256

-- a key of values that are stored so
abbrev pub IsKey : Key → Storage → Type 0
IsKey None storage = Unit {0}
IsKey (Some text) storages.Truths = (text ≡ 0 ∷ []) ⊎ (text ≡ 1 ∷ [])
IsKey (Some text) (storages.Wholes bits signed) = AreNumberBytes (bits / 8) text
IsKey (Some text) (storages.Floats bits) = AreNumberBytes (bits / 8) text
IsKey (Some text) (storages.Sized size) = Unit {0}
IsKey (Some text) (storages.Between wide is_text) = Unit {0}
IsKey (Some text) _ = ⊥

-- the key of a value
pub record HasKey (storage : Storage) (value : Value) (key : Key) : Type 0 where
  pub is : value ≡ value_of key storage
  pub key_is : IsKey key storage

abbrev pub IsWhole : Value → Type 0
IsWhole (Whole n) = Unit {0}
IsWhole _ = ⊥

abbrev pub IsFloat : Value → Type 0
IsFloat (Bits n) = Unit {0}
IsFloat _ = ⊥

-- ---- a column

abbrev pub type_of : Column → KindTree
type_of column = typed_of column.typed.now

abbrev pub array_of : Column → ArrayTree
array_of column = column.array.now

abbrev pub stored_as : Column → Storage
stored_as column = storage_of (kind_in (type_of column))

abbrev pub item_of : Column → ℕ → Value
item_of column i = value_at (type_of column) (array_of column) i

-- all items of a lawful array of a flat type
pub record IsColumn (column : Column) : Type 0 where
  pub types : TypedOk (type_of column)
  pub typed : type_of column ≡ type_of_kind (Flat (kind_in (type_of column)))
  pub flat : HasForm (form_of (kind_in (type_of column)))
  pub lawful : LayoutOk (type_of column) (array_of column)
  pub window : window_of column.items ≡ whole (type_of column) (array_of column)
