-- What a builder holds: the buffers of the encoding of its values, in the making.
use Rattle.std.specs.Prelude.{◌≡◌, ◌≢◌, ◌⊎◌, ℕ, ◌+◌, ◌*◌, ◌^◌, ◌<◌, ◌≤◌, Bool, false, IsTrue, List, [], ◌∷◌, ◌++◌, length, map, take, None, Result}
use Rattle.std.specs.List.{concat, flat_map}
use Rattle.data_types.specs.promise.Packed.{number_at}
use Rattle.data_types.specs.Packed.{IsWidth}
use Rattle.data_types.specs.promise.Storage.{storage_of}
use Rattle.data_types.specs.declared.storage.Storage.TheVariants as stored
use Rattle.data_types.specs.promise.Value.{Value, bytes_of}
use Rattle.data_types.specs.declared.kind.DataType.{DataType}
use Rattle.col_build.specs.promise.Encoding.{bit_bytes, if_some, is_set, null_total, stored_item, validity_of}
use Rattle.col_build.specs.Encoding.{offset_bytes, Fits, most_values, push_fault}
use Rattle.col_build.specs.Shapes.{IsAnswer, shape_in}
use Rattle.col_build.specs.declared.builder.Builder.{Builder}
use Rattle.col_build.specs.declared.item.PushFault.{PushFault}
use Rattle.col_build.specs.declared.shape.Shape.{Shape}
use Rattle.col_build.specs.declared.shape.Shape.TheVariants as shapes

-- the offsets of these items; before the first there may be none yet
abbrev pub HasOffsets : Bool → List (List ℕ) → List ℕ → Type 0
HasOffsets wide items offsets = (offsets ≡ offset_bytes wide items) ⊎ ((offsets ≡ []) × (items ≡ []))

-- the offsets and the bytes of these values; only items between offsets have offsets
abbrev pub HasBytes : Shape → List Value → List ℕ → List ℕ → Type 0
HasBytes shapes.Truths values offsets bytes = bytes ≡ bit_bytes (map is_set values)
HasBytes (shapes.Wholes width signed) values offsets bytes = bytes ≡ flat_map (stored_item width) values
HasBytes (shapes.Floats width) values offsets bytes = bytes ≡ flat_map (stored_item width) values
HasBytes (shapes.Sized size) values offsets bytes = bytes ≡ flat_map (stored_item size) values
HasBytes (shapes.Between wide text) values offsets bytes = HasOffsets wide (map bytes_of values) offsets × (bytes ≡ concat (map bytes_of values))

-- the numbers of a shape are in their ranges
abbrev pub ShapeOk : Shape → Type 0
ShapeOk (shapes.Wholes width signed) = IsWidth width × (width ≡ 16 → IsTrue signed)
ShapeOk (shapes.Floats width) = IsWidth width × (width ≢ 16)
ShapeOk (shapes.Sized size) = size < 2 ^ 31
ShapeOk shape = Unit {0}

-- a shape lays items out as the builder's own does: it is the same, but that of texts one may test them and the other not
abbrev pub IsLaidAs : Shape → Shape → Type 0
IsLaidAs (shapes.Between wide text) own = (tested : Bool) × (own ≡ shapes.Between wide tested)
IsLaidAs shape own = own ≡ shape

-- the validity bits of these values, this many of them nulls
pub record HasValidity (bits : List ℕ) (count nulls : ℕ) (values : List Value) : Type 0 where
  pub counted : count ≡ length values
  pub nulls_counted : nulls ≡ null_total values
  pub shown : if_some bits ≡ validity_of values

-- the narrow offset behind this many items, which is how many bytes they have; before the first offset there are none
abbrev pub end_at : List ℕ → ℕ → ℕ
end_at offsets count = number_at offsets (count * 4) 4

-- it is there, or none is yet
abbrev pub HasEnd : List ℕ → ℕ → Type 0
HasEnd offsets count = (offsets ≡ []) ⊎ (count * 4 + 4 ≤ length offsets)

-- the bytes of this many items with these offsets: behind those of numbers and of narrow offsets there may be others, made ahead
abbrev pub bytes_in : Shape → ℕ → List ℕ → List ℕ → List ℕ
bytes_in (shapes.Wholes width signed) count offsets bytes = take (count * width) bytes
bytes_in (shapes.Floats width) count offsets bytes = take (count * width) bytes
bytes_in (shapes.Between false text) count offsets bytes = take (end_at offsets count) bytes
bytes_in shape count offsets bytes = bytes

-- and their offsets, behind which there may be others where they are narrow
abbrev pub offsets_in : Shape → ℕ → List ℕ → List ℕ
offsets_in (shapes.Between false text) count offsets = take ((count + 1) * 4) offsets
offsets_in shape count offsets = offsets

abbrev pub kept_bytes : Builder → List ℕ
kept_bytes builder = bytes_in builder.shape builder.count builder.offsets.items builder.bytes.items

abbrev pub kept_offsets : Builder → List ℕ
kept_offsets builder = offsets_in builder.shape builder.count builder.offsets.items

-- the builder of a type holds these values; what is made ahead of further ones says nothing
pub record Holds (builder : Builder) (kind : DataType) (values : List Value) : Type 0 where
  pub is_kind : builder.kind ≡ kind
  pub shape : builder.shape ≡ shape_in (storage_of kind)
  pub count : builder.count ≡ length values
  pub nulls : builder.nulls ≡ null_total values
  pub validity : if_some builder.validity.items ≡ validity_of values
  pub bytes : HasBytes builder.shape values (kept_offsets builder) (kept_bytes builder)
  pub fits : Fits kind values

-- the builder holds some values
abbrev pub HoldsSome : Builder → Type 0
HoldsSome builder = (kind : DataType) × (values : List Value) × Holds builder kind values

-- and fewer than the most that there can be
abbrev pub HoldsFew : Builder → Type 0
HoldsFew builder = (kind : DataType) × (values : List Value) × Holds builder kind values × (length values < most_values)

-- what the old builder held the new one holds
abbrev pub Keeps : Builder → Builder → Type 0
Keeps old new = (kind : DataType) (values : List Value) → Holds old kind values → Holds new kind values

-- and one value more
abbrev pub Adds : Value → Builder → Builder → Type 0
Adds value old new = (kind : DataType) (values : List Value) → Holds old kind values → Holds new kind (values ++ value ∷ [])

-- the answer is that of a push of the value: it fails where the column doesn't take it, and where memory runs out
abbrev pub IsPushed : Value → Builder → Result (Unit {0}) PushFault → Type 0
IsPushed value old result = (kind : DataType) (values : List Value) → Holds old kind values → IsAnswer result (push_fault kind values value)

-- the column takes the value
abbrev pub Takes : Builder → Value → Type 0
Takes builder value = (kind : DataType) × (values : List Value) × Holds builder kind values × (length values < most_values) × (push_fault kind values value ≡ None)

-- the column is of whole numbers of this many bytes
abbrev pub HoldsWholes : ℕ → Builder → Type 0
HoldsWholes width builder =
    (kind : DataType) (values : List Value) → Holds builder kind values → (signed : Bool) × (storage_of kind ≡ stored.Wholes (8 * width) signed)

-- the column is of floats of this many bytes
abbrev pub HoldsFloats : ℕ → Builder → Type 0
HoldsFloats width builder = (kind : DataType) (values : List Value) → Holds builder kind values → storage_of kind ≡ stored.Floats (8 * width)
