-- The canonical spelling of a type spells it.
use Rattle.std.proofs.Common.{◌≡◌, ℕ, zero, suc, ℤ, pos, negsuc, ◌+◌, ◌<◌, ◌≤◌, ◌^◌, Bool, true, false, List, [], ◌++◌, length, get_or, codes, refl, sym, ap}
use Rattle.std.proofs.Common.{subst, inl, inr, arith, lit<}
use Rattle.std.specs.Prelude.{Contains, FitsSigned, ◌⊎◌, decimal}
use Rattle.std.specs.Int.{w32}
use Rattle.std.specs.Fmt.{signed_decimal}
use Rattle.std.proofs.lemmas.Fmt.{decimal_is_IsNumeral, decimal_digit, first_decimal}
use Rattle.data_types.specs.declared.kind.DataType.{DataType}
use Rattle.data_types.specs.declared.kind.DataType.TheVariants as kinds
use Rattle.data_types.specs.declared.kind.Tick.{Tick}
use Rattle.data_types.specs.declared.kind.Tick.TheVariants.{Second, Milli, Micro, Nano}
use Rattle.fmt_string.specs.promise.Keywords.{keywords}
use Rattle.fmt_string.specs.promise.Keywords.Behind.{Alone, Zone, BinarySize, ListSize, Numbers}
use Rattle.fmt_string.specs.promise.FormatString.{IsNumber, IsSigned, comma, width_of, DecimalIs, FormatIs}
use Rattle.fmt_string.specs.FormatString.{IsWidth}
use Rattle.data_types.specs.promise.Kinds.{most_precise}
use Rattle.data_types.specs.Kinds.{KindOk}
use Rattle.fmt_string.specs.promise.Spelling.{int_word, width_text, spelling_of}
use Rattle.fmt_string.specs.Spelling.{float_word}

-- ---- numbers

no_zero : (n : ℕ) → n < 2 ^ 64 → get_or (decimal n) 0 0 ≡ 48 → length (decimal n) ≡ 1
no_zero zero fits first = ap length (decimal_digit 0 (omega arith))
no_zero (suc n) fits first = absurd (omega (arith, first_decimal (suc n) (omega arith) fits))

number_spelled : (n : ℕ) → n < 2 ^ 64 → IsNumber (decimal n) n
number_spelled n fits =
    let is = decimal_is_IsNumeral n fits in
    record { digits = is.0.1; some = is.0.0; no_zero = no_zero n fits; value = is.1 }

signed_spelled : (z : ℤ) → FitsSigned w32 z → IsSigned (signed_decimal z) z
signed_spelled (pos n) fits = number_spelled n (omega (arith, fits))
signed_spelled (negsuc n) fits =
    let e : suc n ≡ n + 1 = omega arith in
    (decimal (suc n), refl, subst (λ (k : ℕ). IsNumber (decimal (suc n)) k) e (number_spelled (suc n) (omega (arith, fits))))

width_spelled : (wide : Bool) → IsWidth (width_text wide) (width_of wide)
width_spelled false = inl (refl, refl)
width_spelled true = inr (
  codes "256",
  refl,
  record { digits = (omega arith, (omega arith, (omega arith, tt))); some = omega arith; no_zero = λ h. absurd (omega arith); value = refl },
)

-- ---- types

alone : (word : List ℕ) (kind : DataType) → Contains keywords (record { word = word; behind = Alone kind }) → FormatIs (word ++ []) kind
alone word kind known = record { key = record { word = word; behind = Alone kind }; rest = []; known = known; split = refl; completed = (refl, refl) }

zone : (word : List ℕ) (tick : Tick) (name : List ℕ) → Contains keywords (record { word = word; behind = Zone tick })
    → FormatIs (word ++ name) (kinds.Timestamp tick name)
zone word tick name known = record { key = record { word = word; behind = Zone tick }; rest = name; known = known; split = refl; completed = refl }

int : (bits : ℕ) (signed : Bool) → (bits ≡ 8) ⊎ (bits ≡ 16) ⊎ (bits ≡ 32) ⊎ (bits ≡ 64) → FormatIs (int_word bits signed ++ []) (kinds.Int bits signed)
int bits true (inl e) = subst (λ (b : ℕ). FormatIs (int_word b true ++ []) (kinds.Int b true)) (sym e) (alone (codes "c") (kinds.Int 8 true) (2, lit< tt, refl))
int bits true (inr (inl e)) =
    subst (λ (b : ℕ). FormatIs (int_word b true ++ []) (kinds.Int b true)) (sym e) (alone (codes "s") (kinds.Int 16 true) (3, lit< tt, refl))
int bits true (inr (inr (inl e))) =
    subst (λ (b : ℕ). FormatIs (int_word b true ++ []) (kinds.Int b true)) (sym e) (alone (codes "i") (kinds.Int 32 true) (4, lit< tt, refl))
int bits true (inr (inr (inr e))) =
    subst (λ (b : ℕ). FormatIs (int_word b true ++ []) (kinds.Int b true)) (sym e) (alone (codes "l") (kinds.Int 64 true) (5, lit< tt, refl))
int bits false (inl e) =
    subst (λ (b : ℕ). FormatIs (int_word b false ++ []) (kinds.Int b false)) (sym e) (alone (codes "C") (kinds.Int 8 false) (6, lit< tt, refl))
int bits false (inr (inl e)) =
    subst (λ (b : ℕ). FormatIs (int_word b false ++ []) (kinds.Int b false)) (sym e) (alone (codes "S") (kinds.Int 16 false) (7, lit< tt, refl))
int bits false (inr (inr (inl e))) =
    subst (λ (b : ℕ). FormatIs (int_word b false ++ []) (kinds.Int b false)) (sym e) (alone (codes "I") (kinds.Int 32 false) (8, lit< tt, refl))
int bits false (inr (inr (inr e))) =
    subst (λ (b : ℕ). FormatIs (int_word b false ++ []) (kinds.Int b false)) (sym e) (alone (codes "L") (kinds.Int 64 false) (9, lit< tt, refl))

float : (bits : ℕ) → (bits ≡ 16) ⊎ (bits ≡ 32) ⊎ (bits ≡ 64) → FormatIs (float_word bits ++ []) (kinds.Float bits)
float bits (inl e) = subst (λ (b : ℕ). FormatIs (float_word b ++ []) (kinds.Float b)) (sym e) (alone (codes "e") (kinds.Float 16) (10, lit< tt, refl))
float bits (inr (inl e)) = subst (λ (b : ℕ). FormatIs (float_word b ++ []) (kinds.Float b)) (sym e) (alone (codes "f") (kinds.Float 32) (11, lit< tt, refl))
float bits (inr (inr e)) = subst (λ (b : ℕ). FormatIs (float_word b ++ []) (kinds.Float b)) (sym e) (alone (codes "g") (kinds.Float 64) (12, lit< tt, refl))

number_of_digits : (precision : ℕ) (wide : Bool) → precision ≤ most_precise wide → precision < 2 ^ 64
number_of_digits precision false most = omega arith
number_of_digits precision true most = omega arith

numbers : (precision : ℕ) (scale : ℤ) (wide : Bool) → 1 ≤ precision → precision ≤ most_precise wide → FitsSigned w32 scale
    → DecimalIs (decimal precision ++ comma ++ signed_decimal scale ++ width_text wide) (kinds.Decimal precision scale wide)
numbers precision scale wide least most fits = record {
  parts = record { precision = decimal precision; scale = signed_decimal scale; width = width_text wide };
  precision = precision;
  scale = scale;
  wide = wide;
  are = record {
    precision_is = number_spelled precision (number_of_digits precision wide most);
    scale_is = signed_spelled scale fits;
    width_is = width_spelled wide;
  };
  at_least = least;
  at_most = most;
  fits = fits;
  spelled = refl;
  is = refl;
}

-- ---- each type
pub spelled : (kind : DataType) → KindOk kind → FormatIs (spelling_of kind) kind
spelled kinds.Null ok = alone (codes "n") kinds.Null (0, lit< tt, refl)
spelled kinds.Bool ok = alone (codes "b") kinds.Bool (1, lit< tt, refl)
spelled (kinds.Int bits signed) ok = int bits signed ok
spelled (kinds.Float bits) ok = float bits ok
spelled (kinds.Binary false) ok = alone (codes "z") (kinds.Binary false) (13, lit< tt, refl)
spelled (kinds.Binary true) ok = alone (codes "Z") (kinds.Binary true) (14, lit< tt, refl)
spelled (kinds.Utf8 false) ok = alone (codes "u") (kinds.Utf8 false) (15, lit< tt, refl)
spelled (kinds.Utf8 true) ok = alone (codes "U") (kinds.Utf8 true) (16, lit< tt, refl)
spelled (kinds.FixedBinary size) ok = record {
  key = record { word = codes "w:"; behind = BinarySize };
  rest = decimal size;
  known = (17, lit< tt, refl);
  split = refl;
  completed = (size, ok, number_spelled size (omega arith), refl);
}
spelled (kinds.Decimal precision scale wide) ok = record {
  key = record { word = codes "d:"; behind = Numbers };
  rest = decimal precision ++ comma ++ signed_decimal scale ++ width_text wide;
  known = (18, lit< tt, refl);
  split = refl;
  completed = numbers precision scale wide ok.0 ok.1 ok.2;
}
spelled kinds.DateDay ok = alone (codes "tdD") kinds.DateDay (19, lit< tt, refl)
spelled kinds.DateMilli ok = alone (codes "tdm") kinds.DateMilli (20, lit< tt, refl)
spelled (kinds.TimeOfDay Second) ok = alone (codes "tts") (kinds.TimeOfDay Second) (21, lit< tt, refl)
spelled (kinds.TimeOfDay Milli) ok = alone (codes "ttm") (kinds.TimeOfDay Milli) (22, lit< tt, refl)
spelled (kinds.TimeOfDay Micro) ok = alone (codes "ttu") (kinds.TimeOfDay Micro) (23, lit< tt, refl)
spelled (kinds.TimeOfDay Nano) ok = alone (codes "ttn") (kinds.TimeOfDay Nano) (24, lit< tt, refl)
spelled (kinds.Timestamp Second name) ok = zone (codes "tss:") Second name (25, lit< tt, refl)
spelled (kinds.Timestamp Milli name) ok = zone (codes "tsm:") Milli name (26, lit< tt, refl)
spelled (kinds.Timestamp Micro name) ok = zone (codes "tsu:") Micro name (27, lit< tt, refl)
spelled (kinds.Timestamp Nano name) ok = zone (codes "tsn:") Nano name (28, lit< tt, refl)
spelled (kinds.Duration Second) ok = alone (codes "tDs") (kinds.Duration Second) (29, lit< tt, refl)
spelled (kinds.Duration Milli) ok = alone (codes "tDm") (kinds.Duration Milli) (30, lit< tt, refl)
spelled (kinds.Duration Micro) ok = alone (codes "tDu") (kinds.Duration Micro) (31, lit< tt, refl)
spelled (kinds.Duration Nano) ok = alone (codes "tDn") (kinds.Duration Nano) (32, lit< tt, refl)
spelled kinds.IntervalMonths ok = alone (codes "tiM") kinds.IntervalMonths (33, lit< tt, refl)
spelled kinds.IntervalDayTime ok = alone (codes "tiD") kinds.IntervalDayTime (34, lit< tt, refl)
spelled kinds.IntervalMonthDayNano ok = alone (codes "tin") kinds.IntervalMonthDayNano (35, lit< tt, refl)
spelled (kinds.List false) ok = alone (codes "+l") (kinds.List false) (36, lit< tt, refl)
spelled (kinds.List true) ok = alone (codes "+L") (kinds.List true) (37, lit< tt, refl)
spelled (kinds.FixedList size) ok = record {
  key = record { word = codes "+w:"; behind = ListSize };
  rest = decimal size;
  known = (38, lit< tt, refl);
  split = refl;
  completed = (size, ok, number_spelled size (omega arith), refl);
}
spelled kinds.Struct ok = alone (codes "+s") kinds.Struct (39, lit< tt, refl)
spelled kinds.Map ok = alone (codes "+m") kinds.Map (40, lit< tt, refl)
spelled kinds.BinaryView ok = alone (codes "vz") kinds.BinaryView (42, lit< tt, refl)
spelled kinds.Utf8View ok = alone (codes "vu") kinds.Utf8View (41, lit< tt, refl)
