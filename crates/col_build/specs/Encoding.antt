-- Which values a column takes, why it doesn't take one, and the columns that have an encoding.
use Rattle.std.specs.Prelude.{◌≡◌, ℕ, ◌+◌, ◌^◌, ◌≤◌, Bool, true, false, not, nat_lt, ◌==◌, ◌&&◌, if◌then◌else◌, List, [], length}
use Rattle.std.specs.Prelude.{Option, None, Some, All}
use Rattle.std.specs.Str.{is_utf8}
use Rattle.data_types.specs.promise.Packed.{le_bytes, offset_width}
use Rattle.data_types.specs.promise.FieldText.{Form, Truths, Wholes, FloatBits, Text, HexBytes, SizedHex, Decimals, form_of, in_range}
use Rattle.data_types.specs.Kinds.{KindOk}
use Rattle.data_types.specs.promise.Value.{Value, Null, Truth, Whole, Bits, Bytes}
pub use Rattle.data_types.specs.ColumnForms.{HasForm}
use Rattle.data_types.specs.declared.kind.DataType.{DataType}
use Rattle.col_build.specs.declared.item.PushFault.{PushFault}
use Rattle.col_build.specs.declared.item.PushFault.TheVariants.{WrongKind, OutOfRange, NotText}
pub use Rattle.data_types.specs.promise.Value.{is_null, bytes_of, byte_total}
use Rattle.col_build.specs.promise.Encoding.{are_within, is_by_offsets, is_wide, is_within, ends}
use Rattle.std.specs.List.{flat_map}

-- ---- which items a column takes

abbrev pub is_form : Form → Value → Bool
is_form Truths (Truth truth) = true
is_form (Wholes bits signed) (Whole number) = true
is_form (FloatBits bits) (Bits number) = true
is_form Text (Bytes bytes) = true
is_form HexBytes (Bytes bytes) = true
is_form (SizedHex size) (Bytes bytes) = true
is_form (Decimals precision places) (Whole number) = true
is_form _ _ = false

-- the range is that of the stored number: a decimal's precision isn't looked at
abbrev pub is_storable : Form → Value → Bool
is_storable (Wholes bits signed) (Whole number) = in_range bits signed number
is_storable (Decimals precision places) (Whole number) = in_range 128 true number
is_storable (FloatBits bits) (Bits number) = nat_lt number (2 ^ bits)
is_storable (SizedHex size) (Bytes bytes) = length bytes == size
is_storable _ _ = true

abbrev pub is_text : Form → Value → Bool
is_text Text (Bytes bytes) = is_utf8 bytes
is_text _ _ = true

abbrev pub form_fault : Bool → Form → List Value → Value → Option PushFault
form_fault wide form values value =
    if not (is_form form value) then Some WrongKind
    else if not (is_storable form value && is_within wide form (byte_total values + length (bytes_of value))) then Some OutOfRange
    else if not (is_text form value) then Some NotText
    else None

abbrev pub fault_if : Bool → Option Form → List Value → Value → Option PushFault
fault_if wide form values Null = None
fault_if wide None values value = Some WrongKind
fault_if wide (Some form) values value = form_fault wide form values value

-- why a column of these values doesn't take another, or none where it does
abbrev pub push_fault : DataType → List Value → Value → Option PushFault
push_fault kind values value = fault_if (is_wide kind) (form_of kind) values value

-- ---- the columns that have an encoding

-- the offsets, if there are any, are signed numbers of 64 bits
abbrev pub are_bounded : Option Form → ℕ → Bool
are_bounded None total = true
are_bounded (Some form) total = if is_by_offsets form then nat_lt total (2 ^ 63) else true

-- the most values of a column
abbrev pub most_values : ℕ
most_values = 2 ^ 40

-- each value is one that the column takes, and the offsets reach all bytes
pub record Fits (kind : DataType) (values : List Value) : Type 0 where
  pub kind_ok : KindOk kind
  pub flat : HasForm (form_of kind)
  pub few : length values ≤ most_values
  pub each : All (λ value. push_fault kind [] value ≡ None) values
  pub small : are_within (is_wide kind) (form_of kind) (byte_total values) ≡ true
  pub bounded : are_bounded (form_of kind) (byte_total values) ≡ true

abbrev pub offset_bytes : Bool → List (List ℕ) → List ℕ
offset_bytes wide items = flat_map (le_bytes (offset_width wide)) (ends 0 items)
