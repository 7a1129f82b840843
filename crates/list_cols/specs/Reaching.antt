-- How many bytes the offsets of a column reach.
use Rattle.std.specs.Prelude.{◌≡◌, ◌^◌, ℕ, nat_lt, Bool, true, false, List, Option, None, Some}
use Rattle.data_types.specs.promise.FieldText.{Form, form_of}
use Rattle.data_types.specs.promise.Value.{Value, byte_total}
use Rattle.data_types.specs.declared.kind.DataType.{DataType}
use Rattle.data_types.specs.declared.kind.DataType.TheVariants as kinds
use Rattle.col_build.specs.promise.Encoding.{are_within, is_wide, narrow_limit}
use Rattle.col_build.specs.Encoding.{are_bounded}
use Rattle.list_cols.specs.declared.fault.ListFault.{ListFault}
use Rattle.list_cols.specs.declared.fault.ListFault.TheVariants.{WrongKind, TooLong, NoMemory}

-- whether a type's offsets are of 64 bits, where it has some
abbrev pub wide_of : DataType → Option Bool
wide_of (kinds.Binary wide) = Some wide
wide_of (kinds.Utf8 wide) = Some wide
wide_of _ = None

-- offsets of this width reach this many bytes
abbrev pub reach : Bool → ℕ → Bool
reach true total = true
reach false total = nat_lt total narrow_limit

-- the offsets of a type are wide or not, or it has none
abbrev pub OffsetsAre : Bool → Option Form → Option Bool → Type 0
OffsetsAre wide form (Some broad) = (total : ℕ) → (are_within wide form total ≡ reach broad total) × (are_bounded form total ≡ nat_lt total (2 ^ 63))
OffsetsAre wide form None = (total : ℕ) → (are_within wide form total ≡ true) × (are_bounded form total ≡ true)

-- why offsets don't reach this many bytes
abbrev pub IsReached : Bool → ℕ → Option ListFault → Type 0
IsReached wide total None = (reach wide total ≡ true) × (nat_lt total (2 ^ 63) ≡ true)
IsReached wide total (Some TooLong) = reach wide total ≡ false
IsReached wide total (Some NoMemory) = Unit {0}
IsReached wide total (Some (WrongKind column)) = ⊥

-- why a column of these values has no encoding
abbrev pub IsLong : DataType → List Value → ListFault → Type 0
IsLong kind values TooLong = are_within (is_wide kind) (form_of kind) (byte_total values) ≡ false
IsLong kind values NoMemory = Unit {0}
IsLong kind values (WrongKind column) = ⊥

-- it has one, or this is why it has none
abbrev pub IsHeld : DataType → List Value → Option ListFault → Type 0
IsHeld kind values None = (are_within (is_wide kind) (form_of kind) (byte_total values) ≡ true) × (are_bounded (form_of kind) (byte_total values) ≡ true)
IsHeld kind values (Some fault) = IsLong kind values fault
