-- The canonical spelling of a type: its keyword, and what follows it; a width of 128 bits is left out.
use Rattle.std.specs.Prelude.{ℕ, Bool, true, false, List, [], ◌++◌, codes, decimal, if◌then◌else◌, ◌==◌}
use Rattle.std.specs.Fmt.{signed_decimal}
use Rattle.fmt_string.specs.promise.FormatString.{comma}
use Rattle.data_types.specs.declared.kind.DataType.{DataType}
use Rattle.data_types.specs.declared.kind.DataType.TheVariants as kinds
use Rattle.data_types.specs.declared.kind.Tick.{Tick}
use Rattle.data_types.specs.declared.kind.Tick.TheVariants.{Second, Milli, Micro, Nano}

abbrev pub int_word : ℕ → Bool → List ℕ
int_word bits true = if bits == 8 then codes "c" else if bits == 16 then codes "s" else if bits == 32 then codes "i" else codes "l"
int_word bits false = if bits == 8 then codes "C" else if bits == 16 then codes "S" else if bits == 32 then codes "I" else codes "L"

abbrev pub time_word : Tick → List ℕ
time_word Second = codes "tts"
time_word Milli = codes "ttm"
time_word Micro = codes "ttu"
time_word Nano = codes "ttn"

abbrev pub timestamp_word : Tick → List ℕ
timestamp_word Second = codes "tss:"
timestamp_word Milli = codes "tsm:"
timestamp_word Micro = codes "tsu:"
timestamp_word Nano = codes "tsn:"

abbrev pub duration_word : Tick → List ℕ
duration_word Second = codes "tDs"
duration_word Milli = codes "tDm"
duration_word Micro = codes "tDu"
duration_word Nano = codes "tDn"

abbrev pub word_of : DataType → List ℕ
word_of kinds.Null = codes "n"
word_of kinds.Bool = codes "b"
word_of (kinds.Int bits signed) = int_word bits signed
word_of (kinds.Float bits) = if bits == 16 then codes "e" else if bits == 32 then codes "f" else codes "g"
word_of (kinds.Binary false) = codes "z"
word_of (kinds.Binary true) = codes "Z"
word_of (kinds.Utf8 false) = codes "u"
word_of (kinds.Utf8 true) = codes "U"
word_of (kinds.FixedBinary size) = codes "w:"
word_of (kinds.Decimal precision scale wide) = codes "d:"
word_of kinds.DateDay = codes "tdD"
word_of kinds.DateMilli = codes "tdm"
word_of (kinds.TimeOfDay tick) = time_word tick
word_of (kinds.Timestamp tick zone) = timestamp_word tick
word_of (kinds.Duration tick) = duration_word tick
word_of kinds.IntervalMonths = codes "tiM"
word_of kinds.IntervalDayTime = codes "tiD"
word_of kinds.IntervalMonthDayNano = codes "tin"
word_of (kinds.List false) = codes "+l"
word_of (kinds.List true) = codes "+L"
word_of (kinds.FixedList size) = codes "+w:"
word_of kinds.Struct = codes "+s"
word_of kinds.Map = codes "+m"
word_of kinds.BinaryView = codes "vz"
word_of kinds.Utf8View = codes "vu"

abbrev pub width_text : Bool → List ℕ
width_text false = []
width_text true = codes ",256"

-- what follows the keyword
abbrev pub rest_of : DataType → List ℕ
rest_of (kinds.FixedBinary size) = decimal size
rest_of (kinds.FixedList size) = decimal size
rest_of (kinds.Decimal precision scale wide) = decimal precision ++ comma ++ signed_decimal scale ++ width_text wide
rest_of (kinds.Timestamp tick zone) = zone
rest_of _ = []

abbrev pub spelling_of : DataType → List ℕ
spelling_of kind = word_of kind ++ rest_of kind
