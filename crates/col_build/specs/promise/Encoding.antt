-- The encoding of a flat column: the buffers that its values make ("Arrow Columnar Format", "Validity bitmaps",
-- "Fixed-Size Primitive Layout", "Variable-size Binary Layout").
use Rattle.std.specs.Prelude.{ℕ, ◌+◌, ◌*◌, ◌/◌, ◌^◌, Bool, true, false, not, nat_lt, ◌==◌, if◌then◌else◌, List, [], ◌∷◌, length, map, replicate}
use Rattle.std.specs.Prelude.{Option, None, Some}
use Rattle.std.specs.List.{concat, flat_map}
use Rattle.data_types.specs.promise.Packed.{le_bytes, stored, offset_width}
use Rattle.data_types.specs.promise.FieldText.{Form, Truths, Wholes, FloatBits, Text, HexBytes, SizedHex, Decimals, form_of}
use Rattle.data_types.specs.promise.Value.{Value, Null, Truth, Whole, Bits, Bytes, is_null, bytes_of}
use Rattle.data_types.specs.declared.kind.DataType.{DataType}
use Rattle.data_types.specs.declared.kind.DataType.TheVariants as kinds

-- ---- bits: eight flags a byte, the least significant bit first, and clear behind the last flag

abbrev pub bit_value : Bool → ℕ
bit_value false = 0
bit_value true = 1

abbrev pub byte_of : List Bool → ℕ
byte_of [] = 0
byte_of (flag ∷ flags) = bit_value flag + 2 * byte_of flags

abbrev pub bit_bytes : List Bool → List ℕ
bit_bytes [] = []
bit_bytes (a ∷ b ∷ c ∷ d ∷ e ∷ f ∷ g ∷ h ∷ flags) = byte_of (a ∷ b ∷ c ∷ d ∷ e ∷ f ∷ g ∷ h ∷ []) ∷ bit_bytes flags
bit_bytes flags = byte_of flags ∷ []

-- ---- values in their places

abbrev pub null_total : List Value → ℕ
null_total [] = 0
null_total (Null ∷ values) = 1 + null_total values
null_total (_ ∷ values) = null_total values

-- the bytes of an item that is stored in place: a null has zeros there
abbrev pub stored_item : ℕ → Value → List ℕ
stored_item width (Whole number) = le_bytes width (stored width number)
stored_item width (Bits number) = le_bytes width number
stored_item width (Bytes bytes) = bytes
stored_item width _ = replicate width 0

abbrev pub is_set : Value → Bool
is_set (Truth truth) = truth
is_set _ = false

-- where items one behind the other begin, from a place on, and where the last one ends
abbrev pub ends : ℕ → List (List ℕ) → List ℕ
ends at [] = at ∷ []
ends at (item ∷ items) = at ∷ ends (at + length item) items

-- ---- a column

pub record Encoded : Type 0 where
  pub length : ℕ
  pub null_count : ℕ
  pub buffers : List (Option (List ℕ))

-- a buffer of no bytes is absent
abbrev pub if_some : List ℕ → Option (List ℕ)
if_some [] = None
if_some (byte ∷ bytes) = Some (byte ∷ bytes)

-- a validity bitmap is there exactly where an item is null: a set bit is valid
abbrev pub validity_of : List Value → Option (List ℕ)
validity_of values = if null_total values == 0 then None else Some (bit_bytes (map (λ value. not (is_null value)) values))

abbrev pub in_place : ℕ → List Value → List (Option (List ℕ))
in_place width values = validity_of values ∷ if_some (flat_map (stored_item width) values) ∷ []

-- an offsets buffer is always there
abbrev pub by_offsets : Bool → List Value → List (Option (List ℕ))
by_offsets wide values = validity_of values ∷ Some (flat_map (le_bytes (offset_width wide)) (ends 0 (map bytes_of values))) ∷ if_some (concat (map bytes_of values)) ∷ []

-- offsets of 64 bits
abbrev pub is_wide : DataType → Bool
is_wide (kinds.Binary wide) = wide
is_wide (kinds.Utf8 wide) = wide
is_wide _ = false

abbrev pub buffers_by : Bool → Form → List Value → List (Option (List ℕ))
buffers_by wide Truths values = validity_of values ∷ if_some (bit_bytes (map is_set values)) ∷ []
buffers_by wide (Wholes bits signed) values = in_place (bits / 8) values
buffers_by wide (FloatBits bits) values = in_place (bits / 8) values
buffers_by wide Text values = by_offsets wide values
buffers_by wide HexBytes values = by_offsets wide values
buffers_by wide (SizedHex size) values = in_place size values
buffers_by wide (Decimals precision places) values = in_place 16 values

-- a type that is no flat column kind has no encoding
abbrev pub buffers_if : Bool → Option Form → List Value → List (Option (List ℕ))
buffers_if wide None values = []
buffers_if wide (Some form) values = buffers_by wide form values

abbrev pub encoded : DataType → List Value → Encoded
encoded kind values = record { length = length values; null_count = null_total values; buffers = buffers_if (is_wide kind) (form_of kind) values }

-- ---- which items a column takes

abbrev pub is_by_offsets : Form → Bool
is_by_offsets Text = true
is_by_offsets HexBytes = true
is_by_offsets _ = false

-- offsets of 32 bits reach fewer bytes than this, and ends of 32 bits fewer items
abbrev pub narrow_limit : ℕ
narrow_limit = 2 ^ 31

-- offsets of 32 bits reach this many bytes
abbrev pub is_within : Bool → Form → ℕ → Bool
is_within false form total = if is_by_offsets form then nat_lt total narrow_limit else true
is_within true form total = true

-- ---- the columns that have an encoding

-- the offsets, if there are any, reach this many bytes
abbrev pub are_within : Bool → Option Form → ℕ → Bool
are_within wide None total = true
are_within wide (Some form) total = is_within wide form total
