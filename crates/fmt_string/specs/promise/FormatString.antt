-- Which type a format string spells, and the first fault of any other text.
use Rattle.std.specs.Prelude.{◌≡◌, ◌≢◌, ◌⊎◌, ℕ, ℤ, pos, negsuc, ◌+◌, ◌<◌, ◌≤◌, ◌^◌, Bool, true, false, List, [], ◌∷◌, ◌++◌, length, take, Contains, slice_index}
use Rattle.std.specs.Prelude.{FitsSigned, Any, All, if◌then◌else◌, ◌==◌}
use Rattle.std.specs.Int.{w32}
use Rattle.std.specs.Str.Parse.{AllDigits, digits_value}
use Rattle.fmt_string.specs.declared.fault.FormatRule.{FormatRule}
use Rattle.fmt_string.specs.declared.fault.FormatRule.TheVariants as rules
use Rattle.data_types.specs.declared.kind.DataType.{DataType}
use Rattle.data_types.specs.declared.kind.DataType.TheVariants as kinds
use Rattle.data_types.specs.promise.Kinds.{most_precise}
use Rattle.fmt_string.specs.promise.Keywords.{Keyword, keywords, Behind}
use Rattle.fmt_string.specs.promise.Keywords.Behind.{Alone, Zone, BinarySize, ListSize, Numbers, Refused}

-- ---- numbers

-- decimal digits of n: `0`, or digits of which the first isn't `0`
pub record IsNumber (text : List ℕ) (n : ℕ) : Type 0 where
  pub digits : AllDigits 10 text
  pub some : 0 < length text
  pub no_zero : slice_index text 0 ≡ 48 → length text ≡ 1
  pub value : digits_value 10 text ≡ n

-- one minus before a number below 0
abbrev pub IsSigned : List ℕ → ℤ → Type 0
IsSigned digits (pos n) = IsNumber digits n
IsSigned text (negsuc n) = (digits : List ℕ) × (text ≡ 45 ∷ digits) × IsNumber digits (n + 1)

abbrev pub comma : List ℕ
comma = 44 ∷ []

-- ---- the text behind a keyword

-- the texts of a decimal's numbers; that of the width has its comma
pub record Parts : Type 0 where
  pub precision : List ℕ
  pub scale : List ℕ
  pub width : List ℕ

abbrev pub parts_text : Parts → List ℕ
parts_text parts = parts.precision ++ comma ++ parts.scale ++ parts.width

pub record PartsAre (parts : Parts) (precision : ℕ) (scale : ℤ) (width : ℕ) : Type 0 where
  pub precision_is : IsNumber parts.precision precision
  pub scale_is : IsSigned parts.scale scale
  -- with its comma; a width of 128 bits may be left out
  pub width_is : ((parts.width ≡ []) × (width ≡ 128)) ⊎ ((digits : List ℕ) × (parts.width ≡ comma ++ digits) × IsNumber digits width)

abbrev pub width_of : Bool → ℕ
width_of false = 128
width_of true = 256

-- a precision, a comma, a scale and perhaps a width
pub record DecimalIs (rest : List ℕ) (kind : DataType) : Type 0 where
  pub parts : Parts
  pub precision : ℕ
  pub scale : ℤ
  pub wide : Bool
  pub are : PartsAre parts precision scale (width_of wide)
  pub at_least : 1 ≤ precision
  pub at_most : precision ≤ most_precise wide
  pub fits : FitsSigned w32 scale
  pub spelled : rest ≡ parts_text parts
  pub is : kind ≡ kinds.Decimal precision scale wide

-- The text behind the keyword completes the spelling of the kind.
abbrev pub RestIs : Behind → List ℕ → DataType → Type 0
RestIs (Alone known) rest kind = (rest ≡ []) × (kind ≡ known)
RestIs (Zone tick) rest kind = kind ≡ kinds.Timestamp tick rest
RestIs BinarySize rest kind = (n : ℕ) × (n < 2 ^ 31) × IsNumber rest n × (kind ≡ kinds.FixedBinary n)
RestIs ListSize rest kind = (n : ℕ) × (n < 2 ^ 31) × IsNumber rest n × (kind ≡ kinds.FixedList n)
RestIs Numbers rest kind = DecimalIs rest kind
RestIs Refused rest kind = ⊥

-- The text is a keyword, and then what may follow it.
pub record FormatIs (text : List ℕ) (kind : DataType) : Type 0 where
  pub key : Keyword
  pub rest : List ℕ
  pub known : Contains keywords key
  pub split : text ≡ key.word ++ rest
  pub completed : RestIs key.behind rest kind

-- ---- faults of a number and of what follows it

abbrev pub IsDigit : ℕ → Type 0
IsDigit c = (48 ≤ c) × (c ≤ 57)

abbrev pub StartsWith : ℕ → List ℕ → Type 0
StartsWith byte [] = ⊥
StartsWith byte (c ∷ cs) = c ≡ byte

abbrev pub StartsWithDigit : List ℕ → Type 0
StartsWithDigit [] = ⊥
StartsWithDigit (c ∷ cs) = IsDigit c

-- No number begins here: there is no digit, or a `0` before a digit.
abbrev pub NoNumber : List ℕ → Type 0
NoNumber [] = Unit {0}
NoNumber (c ∷ cs) = (IsDigit c → ⊥) ⊎ ((c ≡ 48) × StartsWithDigit cs)

-- Nor one with a sign: behind a minus there is no number, or 0.
abbrev pub NoSigned : List ℕ → Type 0
NoSigned [] = Unit {0}
NoSigned (c ∷ cs) = ((c ≡ 45) × (NoNumber cs ⊎ StartsWith 48 cs)) ⊎ ((c ≢ 45) × NoNumber (c ∷ cs))

-- A number is the front of the text, and what is behind it doesn't go on with it.
pub record NumberThen (text digits more : List ℕ) (n : ℕ) : Type 0 where
  pub is : IsNumber digits n
  pub split : text ≡ digits ++ more
  pub ends : StartsWithDigit more → ⊥

-- The first fault of a size, and its place.
abbrev pub SizeFails : List ℕ → FormatRule → ℕ → Type 0
SizeFails rest rules.BadNumber p = NoNumber rest × (p ≡ 0)
SizeFails rest rules.Trailing p = (digits more : List ℕ) × (n : ℕ) × NumberThen rest digits more n × (0 < length more) × (p ≡ length digits)
SizeFails rest rules.OutOfRange p = (n : ℕ) × IsNumber rest n × (2 ^ 31 ≤ n) × (p ≡ 0)
SizeFails rest rules.Empty p = ⊥
SizeFails rest rules.Unknown p = ⊥
SizeFails rest rules.Unsupported p = ⊥

-- ---- faults of a decimal

-- Where one of its numbers begins, by the texts of the numbers before it.
pub data NumberPlace : Type 0 where
  AtPrecision : NumberPlace
  AtScale : (precision : List ℕ) → NumberPlace
  AtWidth : (precision scale : List ℕ) → NumberPlace

abbrev pub numbers_before : NumberPlace → List ℕ
numbers_before AtPrecision = []
numbers_before (AtScale precision) = precision ++ comma
numbers_before (AtWidth precision scale) = precision ++ comma ++ scale ++ comma

abbrev pub IsNumberPlace : NumberPlace → Type 0
IsNumberPlace AtPrecision = Unit {0}
IsNumberPlace (AtScale precision) = (n : ℕ) × IsNumber precision n
IsNumberPlace (AtWidth precision scale) = ((n : ℕ) × IsNumber precision n) × ((n : ℤ) × IsSigned scale n)

-- the number that must begin there doesn't
abbrev pub Misses : NumberPlace → List ℕ → Type 0
Misses AtPrecision more = NoNumber more
Misses (AtScale precision) more = NoSigned more
Misses (AtWidth precision scale) more = NoNumber more

-- the bytes behind the last number that is there don't go on
abbrev pub Ends : Parts → List ℕ → Type 0
Ends parts more = (StartsWithDigit more → ⊥) × (parts.width ≡ [] → StartsWith 44 more → ⊥)

abbrev pub most_at : ℕ → ℕ
most_at width = if width == 256 then 76 else 38

abbrev pub KnownWidth : ℕ → Type 0
KnownWidth width = (width ≡ 128) ⊎ (width ≡ 256)

-- A number is out of its range: the width comes first, then the precision, then the scale. Widths of 32 and 64 bits are not
-- supported, and others but 128 and 256 are of no version.
abbrev pub WidthFails : FormatRule → ℕ → Type 0
WidthFails rules.Unsupported width = (width ≡ 32) ⊎ (width ≡ 64)
WidthFails rules.OutOfRange width = (((width ≡ 32) ⊎ (width ≡ 64)) → ⊥) × (KnownWidth width → ⊥)
WidthFails _ width = ⊥

abbrev pub RangeFails : FormatRule → Parts → ℕ → ℤ → ℕ → ℕ → Type 0
RangeFails rule parts precision scale width p =
    (WidthFails rule width × (p ≡ length parts.precision + 1 + length parts.scale + 1))
    ⊎ (KnownWidth width × (rule ≡ rules.OutOfRange) × (precision < 1 ⊎ most_at width < precision) × (p ≡ 0))
    ⊎ (KnownWidth width × (rule ≡ rules.OutOfRange) × (1 ≤ precision) × (precision ≤ most_at width) × (FitsSigned w32 scale → ⊥)
    × (p ≡ length parts.precision + 1))

-- The first fault of the numbers of a decimal, and its place.
abbrev pub NumbersFail : List ℕ → FormatRule → ℕ → Type 0
NumbersFail rest rule p =
    -- a number is missing
    ((rule ≡ rules.BadNumber) × (here : NumberPlace) × (more : List ℕ) × IsNumberPlace here × (rest ≡ numbers_before here ++ more) × Misses here more
    × (p ≡ length (numbers_before here)))
    -- the comma behind the precision is missing
    ⊎ ((rule ≡ rules.BadNumber) × (digits more : List ℕ) × (n : ℕ) × NumberThen rest digits more n × (StartsWith 44 more → ⊥) × (p ≡ length digits))
    ⊎ ((rule ≡ rules.Trailing) × (parts : Parts) × (more : List ℕ) × (n : ℕ) × (s : ℤ) × (w : ℕ) × PartsAre parts n s w × (rest ≡ parts_text parts ++ more)
    × Ends parts more × (0 < length more) × (p ≡ length (parts_text parts)))
    ⊎ ((parts : Parts) × (n : ℕ) × (s : ℤ) × (w : ℕ) × PartsAre parts n s w × (rest ≡ parts_text parts) × RangeFails rule parts n s w p)

-- ---- the first fault of a text

abbrev pub IsPrefix : List ℕ → List ℕ → Type 0
IsPrefix front text = (rest : List ℕ) × (text ≡ front ++ rest)

-- The text begins with no keyword; p is the length of its longest front that also begins a keyword.
pub record UnknownAt (text : List ℕ) (p : ℕ) : Type 0 where
  pub none : All (λ k. IsPrefix k.word text → ⊥) keywords
  pub within : p ≤ length text
  pub begins : Any (λ k. IsPrefix (take p text) k.word) keywords
  pub longest : (q : ℕ) → q ≤ length text → Any (λ k. IsPrefix (take q text) k.word) keywords → q ≤ p

-- The first fault behind a keyword, and its place there.
abbrev pub RestFails : Behind → List ℕ → FormatRule → ℕ → Type 0
RestFails (Alone known) rest rule p = (rule ≡ rules.Trailing) × (0 < length rest) × (p ≡ 0)
RestFails (Zone tick) rest rule p = ⊥
RestFails BinarySize rest rule p = SizeFails rest rule p
RestFails ListSize rest rule p = SizeFails rest rule p
RestFails Numbers rest rule p = NumbersFail rest rule p
RestFails Refused rest rule p = ⊥

pub record FailsBehind (text : List ℕ) (rule : FormatRule) (place : ℕ) : Type 0 where
  pub key : Keyword
  pub rest : List ℕ
  pub p : ℕ
  pub known : Contains keywords key
  pub split : text ≡ key.word ++ rest
  pub place_is : place ≡ length key.word + p
  pub fails : RestFails key.behind rest rule p

abbrev pub FormatFaultIs : List ℕ → FormatRule → ℕ → Type 0
FormatFaultIs text rule place =
    ((rule ≡ rules.Empty) × (text ≡ []) × (place ≡ 0))
    ⊎ ((rule ≡ rules.Unknown) × (0 < length text) × UnknownAt text place)
    ⊎ ((rule ≡ rules.Unsupported) × ((word : List ℕ) × Contains keywords (record { word = word; behind = Refused }) × IsPrefix word text) × (place ≡ 0))
    ⊎ FailsBehind text rule place
