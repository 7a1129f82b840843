-- The flat column kinds, and the values of each: their ranges and sizes.
use Rattle.std.specs.Prelude.{◌≡◌, ◌⊎◌, ◌^◌, ◌<◌, ◌≤◌, nat_abs, ℕ, ◌==◌, ◌&&◌, if◌then◌else◌, List}
use Rattle.std.specs.Prelude.{IsTrue, length, Option, None, Some}
use Rattle.std.specs.List.{AllByRecursion, list_all}
use Rattle.std.specs.Str.{is_utf8}
use Rattle.data_types.specs.declared.kind.DataType.{DataType}
use Rattle.data_types.specs.promise.Value.{Value, Null, Truth, Whole, Bits, Bytes}
use Rattle.data_types.specs.promise.FieldText.{Decimals, FloatBits, Form, HexBytes, SizedHex, Text, Truths, Wholes, form_of, in_range, places}
use Rattle.std.specs.Char.{is_ascii_hexdigit}
use Rattle.std.specs.Str.Parse.{digits_value}

-- ---- values of a type

-- the numbers of a form are those that a format string can have
abbrev pub IsFlatForm : Form → Type 0
IsFlatForm (Wholes bits signed) = (bits ≡ 8) ⊎ (bits ≡ 16) ⊎ (bits ≡ 32) ⊎ (bits ≡ 64)
IsFlatForm (FloatBits bits) = (bits ≡ 16) ⊎ (bits ≡ 32) ⊎ (bits ≡ 64)
IsFlatForm (Decimals precision places) = precision ≤ 38
IsFlatForm _ = Unit {0}

abbrev pub IsSomeFlat : Option Form → Type 0
IsSomeFlat None = ⊥
IsSomeFlat (Some form) = IsFlatForm form

-- a flat column kind
abbrev pub IsFlatKind : DataType → Type 0
IsFlatKind type = IsSomeFlat (form_of type)

-- a value of a form: its range and its size
abbrev pub IsOfForm : Form → Value → Type 0
IsOfForm Truths (Truth truth) = Unit {0}
IsOfForm (Wholes bits signed) (Whole number) = IsTrue (in_range bits signed number)
IsOfForm (FloatBits bits) (Bits number) = number < 2 ^ bits
IsOfForm Text (Bytes text) = IsTrue (is_utf8 text)
IsOfForm HexBytes (Bytes bytes) = AllByRecursion (λ byte. byte < 256) bytes
IsOfForm (SizedHex size) (Bytes bytes) = (length bytes ≡ size) × AllByRecursion (λ byte. byte < 256) bytes
IsOfForm (Decimals precision places) (Whole number) = nat_abs number < 10 ^ precision
IsOfForm _ _ = ⊥

abbrev pub IsOfSome : Option Form → Value → Type 0
IsOfSome None value = ⊥
IsOfSome (Some form) value = IsOfForm form value

-- a value of a flat column kind: null, or of the kind's form
abbrev pub IsValueOf : DataType → Value → Type 0
IsValueOf type Null = Unit {0}
IsValueOf type value = IsOfSome (form_of type) value

-- exactly this many hexadecimal digits, most significant first
abbrev pub read_bits : ℕ → List ℕ → Option Value
read_bits digits text = if (length text == digits) && list_all is_ascii_hexdigit text then Some (Bits (digits_value 16 text)) else None
