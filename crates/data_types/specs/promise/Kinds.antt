-- Which types there are, and which of them columns of a text may have.
use Rattle.std.specs.Prelude.{ℕ, ℤ, pos, negsuc, Bool, true, false, is_some, nat_le, ◌&&◌}
use Rattle.data_types.specs.promise.FieldText.{form_of}
use Rattle.data_types.specs.declared.kind.DataType.{DataType}
use Rattle.data_types.specs.declared.kind.DataType.TheVariants as kinds

-- how many digits the numbers of a decimal have at most
abbrev pub most_precise : Bool → ℕ
most_precise false = 38
most_precise true = 76

-- a flat column kind: a field of text spells the type's values
abbrev pub is_flat : DataType → Bool
is_flat kind = is_some (form_of kind)

-- a scale from 0 to the precision
abbrev pub is_within : ℤ → ℕ → Bool
is_within (pos scale) precision = nat_le scale precision
is_within (negsuc n) precision = false

-- the flat types that may be asked for: texts of at most 65,536 bytes, and decimals with a scale from 0 to the precision
abbrev pub is_column_type : DataType → Bool
is_column_type (kinds.FixedBinary size) = nat_le 1 size && nat_le size 65536
is_column_type (kinds.Decimal precision scale false) = is_within scale precision
is_column_type kind = is_flat kind
