-- The value that a reference shows.
use Rattle.std.specs.Prelude.{◌≡◌}
use Rattle.data_types.specs.promise.Value.{Value, values}
use Rattle.data_types.specs.promise.Value.Value.{Null, Truth, Whole, Bits, Bytes, Items}
use Rattle.arr_import.specs.declared.value_ref.ValueRef.{ValueRef}
use Rattle.arr_import.specs.declared.value_ref.ValueRef.TheVariants as refs
use Rattle.arr_import.specs.Window.{IsStructValue, items_of}
use Rattle.arr_import.specs.Cols.{window_of}

-- A reference of each kind shows the values of that kind alone: bytes are those that it lends, a list's items those of its
-- column. A struct's fields are its children's items.
abbrev pub Shows : ValueRef → Value → Type 0
Shows refs.Null v = v ≡ Null
Shows (refs.Truth truth) v = v ≡ Truth truth
Shows (refs.Whole number) v = v ≡ Whole number
Shows (refs.Bits bits) v = v ≡ Bits bits
Shows (refs.Bytes bytes) v = v ≡ Bytes bytes.now
Shows (refs.Items col) v = v ≡ Items (values (items_of (window_of col)))
Shows refs.Struct v = IsStructValue v
