-- The text of a field: which value a field of a CSV record spells in a column of a type, and how a value is written. The
-- mark is the text that stands for a null, by default the empty one.
-- This is the table of the flat column kinds: each has a form, by how it is stored, and a form is read and written one way.
use Rattle.std.specs.Prelude.{ℕ, zero, suc, ◌-◌, ◌*◌, ◌/◌, ◌%◌, ◌^◌, ℤ, pos, negsuc, neg_ℤ, Bool, true, false, nat_lt, nat_le}
use Rattle.std.specs.Prelude.{◌==◌, ◌&&◌, if◌then◌else◌, List, [], ◌∷◌, ◌++◌, length, take, drop, replicate, codes, Option, None, Some}
use Rattle.std.specs.List.{list_any, list_all, flat_map, prefix_len}
use Rattle.std.specs.Option.{option_map, option_and_then}
use Rattle.std.specs.Char.{is_ascii_digit, is_ascii_hexdigit}
use Rattle.std.specs.Str.{is_utf8, bytes_eq, all_ascii_digits}
use Rattle.std.specs.Str.Parse.{digits_value, signed_digits_value, starts_with_minus, without_leading_sign}
use Rattle.std.specs.Fmt.{decimal, signed_decimal, digit_glyph}
use Rattle.data_types.specs.declared.kind.DataType.{DataType}
use Rattle.data_types.specs.declared.kind.DataType.TheVariants as kinds
use Rattle.data_types.specs.declared.storage.Storage.{Storage}
use Rattle.data_types.specs.declared.storage.Storage.TheVariants as stored
use Rattle.data_types.specs.promise.Storage.{storage_of}
use Rattle.data_types.specs.promise.Table.{Kind, Flat, Dict}
use Rattle.data_types.specs.promise.Value.{Value, Null, Truth, Whole, Bits, Bytes}

-- ---- forms

pub data Form : Type 0 where
  -- `true` or `false`
  Truths : Form
  -- a whole number of this many bits, with a sign or without
  Wholes : ℕ → Bool → Form
  -- this many bits, by hexadecimal digits
  FloatBits : ℕ → Form
  -- UTF-8
  Text : Form
  -- bytes by pairs of hexadecimal digits, and this many of them
  HexBytes : Form
  SizedHex : ℕ → Form
  -- a decimal of this many digits, this many of them behind the point
  Decimals : ℕ → ℕ → Form

-- a scale below 0 is read and written as 0
abbrev pub places : ℤ → ℕ
places (pos scale) = scale
places (negsuc _) = 0

-- the form of what is stored so; lists, structs and views have none
abbrev pub stored_form : Storage → Option Form
stored_form stored.Truths = Some Truths
stored_form (stored.Wholes bits signed) = Some (Wholes bits signed)
stored_form (stored.Floats bits) = Some (FloatBits bits)
stored_form (stored.Sized size) = Some (SizedHex size)
stored_form (stored.Between wide false) = Some HexBytes
stored_form (stored.Between wide true) = Some Text
stored_form _ = None

-- the form of a flat column kind; any other type has none. Decimals have a form of their own, and those of 256 bits none,
-- nor have intervals of several numbers
abbrev pub form_of : DataType → Option Form
form_of (kinds.Decimal precision scale false) = Some (Decimals precision (places scale))
form_of (kinds.Decimal precision scale true) = None
form_of kinds.IntervalDayTime = None
form_of kinds.IntervalMonthDayNano = None
form_of type = stored_form (storage_of type)

-- ---- reading

abbrev pub read_truth : List ℕ → Option Value
read_truth text =
    if list_any (bytes_eq text) (codes "true" ∷ codes "True" ∷ codes "TRUE" ∷ []) then Some (Truth true)
    else if list_any (bytes_eq text) (codes "false" ∷ codes "False" ∷ codes "FALSE" ∷ []) then Some (Truth false)
    else None

-- at least one decimal digit, and nothing else
abbrev pub is_numeral : List ℕ → Bool
is_numeral text = nat_lt 0 (length text) && all_ascii_digits text

-- a whole number is in the range of this many bits, with a sign or without
abbrev pub in_range : ℕ → Bool → ℤ → Bool
in_range bits true (pos n) = nat_lt n (2 ^ (bits - 1))
in_range bits true (negsuc n) = nat_lt n (2 ^ (bits - 1))
in_range bits false (pos n) = nat_lt n (2 ^ bits)
in_range bits false (negsuc n) = false

-- an optional `+` or `-` and a numeral, whose number is in range
abbrev pub read_whole : ℕ → Bool → List ℕ → Option Value
read_whole bits signed text =
    if is_numeral (without_leading_sign text) && in_range bits signed (signed_digits_value 10 text) then Some (Whole (signed_digits_value 10 text)) else None

-- the bytes that pairs of hexadecimal digits write
abbrev pub hex_bytes : List ℕ → Option (List ℕ)
hex_bytes [] = Some []
hex_bytes (high ∷ low ∷ rest) =
    if is_ascii_hexdigit high && is_ascii_hexdigit low then option_map (λ bytes. digits_value 16 (high ∷ low ∷ []) ∷ bytes) (hex_bytes rest) else None
hex_bytes _ = None

-- the digits behind a point where there is one: 1 to this many digits
abbrev pub fraction_of : ℕ → List ℕ → Option (List ℕ)
fraction_of most [] = Some []
fraction_of most (c ∷ digits) = if (c == 46) && is_numeral digits && nat_le (length digits) most then Some digits else None

-- the number in units of 10^-places that digits before and behind the point write: missing digits are 0
abbrev pub unscaled : ℕ → List ℕ → List ℕ → ℕ
unscaled places whole fraction = digits_value 10 (whole ++ (fraction ++ replicate (places - length fraction) 48))

-- the same of a text without sign: at least one digit, and the fraction
abbrev pub read_unscaled : ℕ → List ℕ → Option ℕ
read_unscaled places text =
    let n = prefix_len is_ascii_digit text in
    if nat_lt 0 n then option_map (unscaled places (take n text)) (fraction_of places (drop n text)) else None

-- with an optional sign; the unscaled number is below 10^precision in size
abbrev pub read_decimal : ℕ → ℕ → List ℕ → Option Value
read_decimal precision places text =
    option_and_then
    (λ n. if nat_lt n (10 ^ precision) then Some (Whole (if starts_with_minus text then neg_ℤ (pos n) else pos n)) else None)
    (read_unscaled places (without_leading_sign text))

abbrev pub read_form : Form → List ℕ → Option Value
read_form Truths text = read_truth text
read_form (Wholes bits signed) text = read_whole bits signed text
-- exactly as many hexadecimal digits as the bits fill, most significant first
read_form (FloatBits bits) text =
    if (length text == bits / 4) && list_all is_ascii_hexdigit text then Some (Bits (digits_value 16 text)) else None
read_form Text text = if is_utf8 text then Some (Bytes text) else None
read_form HexBytes text = option_map Bytes (hex_bytes text)
read_form (SizedHex size) text = if length text == 2 * size then option_map Bytes (hex_bytes text) else None
read_form (Decimals precision places) text = read_decimal precision places text

-- the value that a text spells in a type, or none where the text is outside the type
abbrev pub read_text : DataType → List ℕ → Option Value
read_text type text = option_and_then (λ form. read_form form text) (form_of type)

-- the value of a field: one that equals the mark is null, and any other, the empty one too, is read by its type
abbrev pub read_field : List ℕ → DataType → List ℕ → Option Value
read_field mark type text = if bytes_eq text mark then Some Null else read_text type text

-- ---- writing

-- the lowest n digits of a number in a base, most significant first, in lower case
abbrev pub last_digits : ℕ → ℕ → ℕ → List ℕ
last_digits base zero n = []
last_digits base (suc count) n = last_digits base count (n / base) ++ (digit_glyph false (n % base) ∷ [])

abbrev pub hex_text : List ℕ → List ℕ
hex_text bytes = flat_map (last_digits 16 2) bytes

-- the whole part without leading zeros, and where there are places a point and this many digits
abbrev pub point_text : ℕ → ℕ → List ℕ
point_text zero n = decimal n
point_text (suc more) n = decimal (n / 10 ^ suc more) ++ (46 ∷ last_digits 10 (suc more) n)

abbrev pub decimal_text : ℕ → ℤ → List ℕ
decimal_text places (pos n) = point_text places n
decimal_text places (negsuc n) = 45 ∷ point_text places (suc n)

-- a value outside the form isn't written
abbrev pub written_form : Form → Value → List ℕ
written_form Truths (Truth truth) = if truth then codes "true" else codes "false"
written_form (Wholes bits signed) (Whole number) = signed_decimal number
written_form (FloatBits bits) (Bits number) = last_digits 16 (bits / 4) number
written_form Text (Bytes text) = text
written_form HexBytes (Bytes bytes) = hex_text bytes
written_form (SizedHex size) (Bytes bytes) = hex_text bytes
written_form (Decimals precision places) (Whole number) = decimal_text places number
written_form _ _ = []

abbrev pub written_if : Option Form → Value → List ℕ
written_if None value = []
written_if (Some form) value = written_form form value

-- the text of a value of a type: a null is the mark
abbrev pub written_text : List ℕ → DataType → Value → List ℕ
written_text mark type Null = mark
written_text mark type value = written_if (form_of type) value

-- the text of a value in a column: a column with a dictionary is written by its values
abbrev pub written_field : List ℕ → Kind → Value → List ℕ
written_field mark (Flat type) value = written_text mark type value
written_field mark (Dict type) value = written_text mark type value
written_field mark _ value = []
