-- The text of a value, and that of the items of an array.
use Rattle.std.specs.Prelude.{ℕ, ◌/◌, ◌%◌, Bool, true, not, ◌&&◌, ◌==◌, if◌then◌else◌, List, [], ◌∷◌, ◌++◌, codes}
use Rattle.std.specs.Int.{is_in_range}
use Rattle.std.specs.List.{flat_map, join_with_byte}
use Rattle.std.specs.Fmt.{signed_decimal, digit_glyph}
use Rattle.data_types.specs.promise.FieldText.{last_digits}
use Rattle.data_types.specs.promise.Value.{Value, Values, Null, Truth, Whole, Bits, Bytes, Items, Fields, no_values, more_values}

-- ---- the bytes of a value

-- a printable byte but `%`, `,`, `]` and `}` stands for itself
abbrev pub is_plain : ℕ → Bool
is_plain byte = is_in_range 33 126 byte && not (byte == 37) && not (byte == 44) && not (byte == 93) && not (byte == 125)

-- any other byte is `%` and two upper-case hexadecimal digits
abbrev pub byte_text : ℕ → List ℕ
byte_text byte = if is_plain byte then byte ∷ [] else 37 ∷ digit_glyph true (byte / 16) ∷ digit_glyph true (byte % 16) ∷ []

-- ---- a value

-- Null is `~`; a whole number is decimal; the bits of a float are `x` and 16 lower-case hexadecimal digits; bytes follow
-- `=`; the items of a list are in brackets and the fields of a struct in braces, with commas between them.
abbrev mutual
  pub value_text : Value → List ℕ
  value_text Null = codes "~"
  value_text (Truth truth) = if truth then codes "true" else codes "false"
  value_text (Whole number) = signed_decimal number
  value_text (Bits bits) = codes "x" ++ last_digits 16 16 bits
  value_text (Bytes bytes) = codes "=" ++ flat_map byte_text bytes
  value_text (Items items) = codes "[" ++ join_with_byte 44 (value_texts items) ++ codes "]"
  value_text (Fields fields) = codes "{" ++ join_with_byte 44 (value_texts fields) ++ codes "}"

  pub value_texts : Values → List (List ℕ)
  value_texts no_values = []
  value_texts (more_values value rest) = value_text value ∷ value_texts rest

-- ---- the items of an array

-- the line of a value
abbrev pub value_line : Value → List ℕ
value_line value = value_text value ++ codes "\n"

-- `ok`, and a line for each value
abbrev pub lines_text : List Value → List ℕ
lines_text values = codes "ok\n" ++ flat_map value_line values
