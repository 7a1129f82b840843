-- The text of a value reads back as the value, form by form.
use Rattle.std.proofs.Common.{◌≡◌, ◌≢◌, ℕ, zero, suc, ◌+◌, ◌-◌, ◌*◌, ◌/◌, ◌%◌, ◌^◌, ◌<◌, ◌≤◌, true, false, List, [], ◌∷◌, ◌++◌, length, replicate, Option, Some}
use Rattle.std.proofs.Common.{None, refl, sym, ap, ◌∙◌, subst, append_assoc, arith, rules, length-append, inl, inr, lt-ltb, eq-eqb}
use Rattle.std.specs.Prelude.{ℤ, pos, negsuc, nat_abs, Bool, nat_lt, nat_le, ◌==◌, ◌&&◌, ◌⊎◌, if◌then◌else◌, IsTrue}
use Rattle.std.specs.List.{list_all, prefix_len, AllByRecursion}
use Rattle.std.specs.Char.{is_ascii_digit, is_ascii_hexdigit, digit_value}
use Rattle.std.specs.Str.{all_ascii_digits, bytes_eq}
use Rattle.std.specs.Str.Parse.{digits_value, starts_with_minus, without_leading_sign}
use Rattle.std.specs.Fmt.{decimal, signed_decimal, digit_glyph}
use Rattle.std.proofs.lemmas.Bool.{and_parts, and_from, false≢true, leb-true, le-leb, ltb-true, ne_eqb}
use Rattle.std.proofs.lemmas.Int.Digits.{digits_value_push}
use Rattle.std.proofs.lemmas.Fmt.{decimal_is_IsNumeral_wide}
use Rattle.std.proofs.lemmas.List.{append-nil, take_at, drop_at}
use Rattle.std.proofs.lemmas.List.Folds.{list_all-append}
use Rattle.std.proofs.lemmas.Nat.{div-add-mod', mod_below, div_below}
use Rattle.std.proofs.lemmas.Slice.Eq.{bytes_eq-Decides}
use Rattle.std.proofs.lemmas.Str.Parse.{IsNumeralModel, numerals_by_value}
use Rattle.std.proofs.Math.Nat.{div-div-eq-div-mul, div-le_self, pow-succ', pow-zero, pow-le-pow_right}
use Rattle.data_types.specs.declared.kind.DataType.{DataType}
use Rattle.data_types.specs.promise.Value.{Value, Null, Truth, Whole, Bits, Bytes, Items, Fields}
use Rattle.data_types.specs.promise.FieldText.{Form, is_numeral, in_range, read_whole, hex_bytes, fraction_of, unscaled, read_unscaled, read_decimal}
use Rattle.data_types.specs.FieldText.{read_bits, IsFlatForm, IsSomeFlat, IsFlatKind, IsOfForm, IsOfSome, IsValueOf}
use Rattle.data_types.specs.promise.FieldText.{read_form, read_text, read_field, last_digits, hex_text, point_text, decimal_text, written_form, written_if}
use Rattle.data_types.specs.promise.FieldText.{written_text, form_of}
use Rattle.data_types.specs.promise.FieldText.Form.{Truths, Wholes, FloatBits, Text, HexBytes, SizedHex, Decimals}

-- ---- digits

own : IsNumeralModel (λ ds. all_ascii_digits ds ≡ true) (digits_value 10)
own = numerals_by_value (λ ds. all_ascii_digits ds ≡ true) (search rules)

glyph_value : (d : ℕ) → d < 16 → digit_value (digit_glyph false d) ≡ d
glyph_value d small = grind arith

glyph_hex : (d : ℕ) → d < 16 → is_ascii_hexdigit (digit_glyph false d) ≡ true
glyph_hex d small = grind arith

glyph_digit : (d : ℕ) → d < 10 → is_ascii_digit (digit_glyph false d) ≡ true
glyph_digit d small = grind arith

length-last_digits : (base count n : ℕ) → length (last_digits base count n) ≡ count
length-last_digits base zero n = refl
length-last_digits base (suc count) n =
    omega (arith, length-append (last_digits base count (n / base)) (digit_glyph false (n % base) ∷ []), length-last_digits base count (n / base))

hex_digits : (count n : ℕ) → list_all is_ascii_hexdigit (last_digits 16 count n) ≡ true
hex_digits zero n = refl
hex_digits (suc count) n =
    list_all-append is_ascii_hexdigit (last_digits 16 count (n / 16)) (digit_glyph false (n % 16) ∷ [])
    ∙ rw (hex_digits count (n / 16), glyph_hex (n % 16) (omega arith)) refl

decimal_digits : (count n : ℕ) → list_all is_ascii_digit (last_digits 10 count n) ≡ true
decimal_digits zero n = refl
decimal_digits (suc count) n =
    list_all-append is_ascii_digit (last_digits 10 count (n / 10)) (digit_glyph false (n % 10) ∷ [])
    ∙ rw (decimal_digits count (n / 10), glyph_digit (n % 10) (omega arith)) refl

-- digits in front of the lowest ones
value_after : (base count n : ℕ) (front : List ℕ) → 0 < base → base ≤ 16 → digits_value base front ≡ n / base ^ count
    → digits_value base (front ++ last_digits base count n) ≡ n
value_after base zero n front some few is =
    let one : n / 1 ≡ n = omega arith in ap (digits_value base) (append-nil front) ∙ is ∙ ap (λ (x : ℕ). n / x) (pow-zero base) ∙ one
value_after base (suc count) n front some few is =
    let small : n % base < base = mod_below n base some in
    let next : digits_value base front ≡ n / base / base ^ count =
    is ∙ ap (λ (x : ℕ). n / x) (pow-succ' base count) ∙ sym (div-div-eq-div-mul n base (base ^ count)) in
    ap (digits_value base) (sym (append_assoc front (last_digits base count (n / base)) (digit_glyph false (n % base) ∷ [])))
    ∙ digits_value_push base (front ++ last_digits base count (n / base)) (digit_glyph false (n % base))
    ∙ ap (λ (x : ℕ). x * base + digit_value (digit_glyph false (n % base))) (value_after base count (n / base) front some few next)
    ∙ ap (λ (x : ℕ). n / base * base + x) (glyph_value (n % base) (omega (arith, small, few)))
    ∙ div-add-mod' n base

hex_value : (count n : ℕ) → n < 16 ^ count → digits_value 16 (last_digits 16 count n) ≡ n
hex_value count n small =
    let none : n / 16 ^ count < 1 = div_below n (16 ^ count) 1 (omega (arith, small)) (omega (arith, small)) in
    value_after 16 count n [] (omega arith) (omega arith) (omega (arith, none))

-- ---- whole numbers

record Numeral (n : ℕ) : Type 0 where
  is : is_numeral (decimal n) ≡ true
  some : 0 < length (decimal n)
  value : digits_value 10 (decimal n) ≡ n

numeral : (n : ℕ) → n < 10 ^ 64 → Numeral n
numeral n small =
    let std = decimal_is_IsNumeral_wide n small in
    record { is = and_from _ _ (lt-ltb 0 (length (decimal n)) std.0.0) (own.from (decimal n) std.0.1); some = std.0.0; value = std.1 }

-- a text that begins with a digit has no sign
record Unsigned (text : List ℕ) : Type 0 where
  same : without_leading_sign text ≡ text
  plus : starts_with_minus text ≡ false

digit_no_sign : (c : ℕ) (cs : List ℕ) → is_ascii_digit c ≡ true → Unsigned (c ∷ cs)
digit_no_sign c cs is =
    let low : 48 ≤ c = leb-true 48 c (and_parts _ _ is).0 in
    let minus : (c == 45) ≡ false = ne_eqb c 45 (λ e. omega (arith, e, low)) in
    let plus : (c == 43) ≡ false = ne_eqb c 43 (λ e. omega (arith, e, low)) in
    record { same = rw (minus, plus) refl; plus = minus }

unsigned : (text rest : List ℕ) → is_numeral text ≡ true → Unsigned (text ++ rest)
unsigned [] rest is = absurd (false≢true is)
unsigned (c ∷ cs) rest is = digit_no_sign c (cs ++ rest) (and_parts _ _ (and_parts _ _ is).1).0

within : (n bits : ℕ) → bits ≤ 64 → n < 2 ^ bits → n < 10 ^ 64
within n bits few small =
    let most : 2 ^ bits ≤ 2 ^ 64 = pow-le-pow_right {n = 2} (omega arith) {i = bits} {j = 64} few in
    omega (arith, most, small)

in_range_small : (bits : ℕ) (signed : Bool) (n : ℕ) → bits ≤ 64 → in_range bits signed (pos n) ≡ true → n < 10 ^ 64
in_range_small bits true n few is = within n (bits - 1) (omega (arith, few)) (ltb-true n (2 ^ (bits - 1)) is)
in_range_small bits false n few is = within n bits few (ltb-true n (2 ^ bits) is)

below_0_small : (bits : ℕ) (signed : Bool) (n : ℕ) → bits ≤ 64 → in_range bits signed (negsuc n) ≡ true → suc n < 10 ^ 64
below_0_small bits true n few is =
    let most : 2 ^ (bits - 1) ≤ 2 ^ 64 = pow-le-pow_right {n = 2} (omega arith) {i = bits - 1} {j = 64} (omega (arith, few)) in
    omega (arith, most, ltb-true n (2 ^ (bits - 1)) is)
below_0_small bits false n few is = absurd (false≢true is)

decimal_unsigned : (n : ℕ) → n < 10 ^ 64 → Unsigned (decimal n)
decimal_unsigned n small = subst (λ (t : List ℕ). Unsigned t) (append-nil (decimal n)) (unsigned (decimal n) [] (numeral n small).is)

few_bits : (bits : ℕ) (signed : Bool) → IsFlatForm (Wholes bits signed) → bits ≤ 64
few_bits bits signed flat = omega (arith, flat)

whole_back : (bits : ℕ) (signed : Bool) (z : ℤ) → IsFlatForm (Wholes bits signed) → IsTrue (in_range bits signed z)
    → read_whole bits signed (signed_decimal z) ≡ Some (Whole z)
whole_back bits signed (pos n) flat of =
    let small = in_range_small bits signed n (few_bits bits signed flat) of in
    let text = decimal_unsigned n small in
    let number = numeral n small in
    rw (text.same, text.plus, number.is, number.value, of) refl
whole_back bits signed (negsuc n) flat of =
    let number = numeral (suc n) (below_0_small bits signed n (few_bits bits signed flat) of) in
    rw (number.is, number.value, of) refl

-- ---- hexadecimal digits

bits_back : (digits n : ℕ) → n < 16 ^ digits → read_bits digits (last_digits 16 digits n) ≡ Some (Bits n)
bits_back digits n small =
    rw (eq-eqb (length (last_digits 16 digits n)) digits (length-last_digits 16 digits n), hex_digits digits n, hex_value digits n small) refl

pub record FloatWidth (bits : ℕ) : Type 0 where
  pub some : 0 < bits / 4
  pub power : 2 ^ bits ≡ 16 ^ (bits / 4)

pub float_width : (bits : ℕ) → IsFlatForm (FloatBits bits) → FloatWidth bits
float_width bits (inl is) = subst (λ (k : ℕ). FloatWidth k) (sym is) (record { some = omega arith; power = refl })
float_width bits (inr (inl is)) = subst (λ (k : ℕ). FloatWidth k) (sym is) (record { some = omega arith; power = refl })
float_width bits (inr (inr is)) = subst (λ (k : ℕ). FloatWidth k) (sym is) (record { some = omega arith; power = refl })

hex_back : (bytes : List ℕ) → AllByRecursion (λ byte. byte < 256) bytes → hex_bytes (hex_text bytes) ≡ Some bytes
hex_back [] small = refl
hex_back (b ∷ bs) small =
    rw (glyph_hex (b / 16 % 16) (omega arith), glyph_hex (b % 16) (omega arith), hex_back bs small.1)
    (ap (λ (x : ℕ). Some (x ∷ bs)) (hex_value 2 b (omega (arith, small.0))))

length-hex_text : (bytes : List ℕ) → length (hex_text bytes) ≡ 2 * length bytes
length-hex_text [] = refl
length-hex_text (b ∷ bs) = omega (arith, length-hex_text bs)

-- ---- decimals

same_test : (ds : List ℕ) → all_ascii_digits ds ≡ list_all is_ascii_digit ds
same_test [] = refl
same_test (c ∷ cs) = ap (λ (t : Bool). is_ascii_digit c && t) (same_test cs)

front_len : (ds rest : List ℕ) → all_ascii_digits ds ≡ true → prefix_len is_ascii_digit rest ≡ 0 → prefix_len is_ascii_digit (ds ++ rest) ≡ length ds
front_len [] rest is stops = stops
front_len (c ∷ cs) rest is stops =
    let parts = and_parts (is_ascii_digit c) (all_ascii_digits cs) is in
    let more = front_len cs rest parts.1 stops in
    rw parts.0 (omega (arith, more))

parts_read : (places : ℕ) (ds rest fs : List ℕ) → is_numeral ds ≡ true → prefix_len is_ascii_digit rest ≡ 0 → fraction_of places rest ≡ Some fs
    → read_unscaled places (ds ++ rest) ≡ Some (unscaled places ds fs)
parts_read places ds rest fs is stops fraction =
    let parts = and_parts (nat_lt 0 (length ds)) (all_ascii_digits ds) is in
    rw (front_len ds rest parts.1 stops, parts.0, take_at ds rest (length ds) refl, drop_at ds rest (length ds) refl, fraction) refl

unscaled_full : (places : ℕ) (ds fs : List ℕ) → length fs ≡ places → unscaled places ds fs ≡ digits_value 10 (ds ++ fs)
unscaled_full places ds fs whole =
    let none : places - length fs ≡ 0 = omega (arith, whole) in
    ap (λ (k : ℕ). digits_value 10 (ds ++ (fs ++ replicate k 48))) none ∙ ap (λ (x : List ℕ). digits_value 10 (ds ++ x)) (append-nil fs)

fraction_read : (places : ℕ) (fs : List ℕ) → 0 < places → length fs ≡ places → all_ascii_digits fs ≡ true → fraction_of places (46 ∷ fs) ≡ Some fs
fraction_read places fs some whole digits =
    let long : nat_lt 0 (length fs) ≡ true = lt-ltb 0 (length fs) (omega (arith, whole, some)) in
    let few : nat_le (length fs) places ≡ true = le-leb (length fs) places (omega (arith, whole)) in
    rw (long, digits, few) refl

point_read : (places n : ℕ) → n < 10 ^ 64 → read_unscaled places (point_text places n) ≡ Some n
point_read zero n small =
    let number = numeral n small in
    ap (read_unscaled 0) (sym (append-nil (decimal n))) ∙ parts_read 0 (decimal n) [] [] number.is refl refl
    ∙ ap Some (unscaled_full 0 (decimal n) [] refl ∙ ap (digits_value 10) (append-nil (decimal n)) ∙ number.value)
point_read (suc more) n small =
    let number = numeral (n / 10 ^ suc more) (omega (arith, small, div-le_self n (10 ^ suc more))) in
    let fs = last_digits 10 (suc more) n in
    let len = length-last_digits 10 (suc more) n in
    let digits = same_test fs ∙ decimal_digits (suc more) n in
    parts_read (suc more) (decimal (n / 10 ^ suc more)) (46 ∷ fs) fs number.is refl (fraction_read (suc more) fs (omega arith) len digits)
    ∙ ap Some (unscaled_full (suc more) (decimal (n / 10 ^ suc more)) fs len
    ∙ value_after 10 (suc more) n (decimal (n / 10 ^ suc more)) (omega arith) (omega arith) number.value)

point_unsigned : (places n : ℕ) → n < 10 ^ 64 → Unsigned (point_text places n)
point_unsigned zero n small = decimal_unsigned n small
point_unsigned (suc more) n small =
    let number = numeral (n / 10 ^ suc more) (omega (arith, small, div-le_self n (10 ^ suc more))) in
    unsigned (decimal (n / 10 ^ suc more)) (46 ∷ last_digits 10 (suc more) n) number.is

point_some : (places n : ℕ) → n < 10 ^ 64 → 0 < length (point_text places n)
point_some zero n small = (numeral n small).some
point_some (suc more) n small =
    let number = numeral (n / 10 ^ suc more) (omega (arith, small, div-le_self n (10 ^ suc more))) in
    omega (arith, number.some, length-append (decimal (n / 10 ^ suc more)) (46 ∷ last_digits 10 (suc more) n))

size_small : (n precision : ℕ) → precision ≤ 38 → n < 10 ^ precision → n < 10 ^ 64
size_small n precision few small =
    let most : 10 ^ precision ≤ 10 ^ 64 = pow-le-pow_right {n = 10} (omega arith) {i = precision} {j = 64} (omega (arith, few)) in
    omega (arith, most, small)

decimal_back : (precision places : ℕ) (z : ℤ) → precision ≤ 38 → nat_abs z < 10 ^ precision
    → read_decimal precision places (decimal_text places z) ≡ Some (Whole z)
decimal_back precision places (pos n) few of =
    let small = size_small n precision few of in
    let text = point_unsigned places n small in
    rw (text.same, text.plus, point_read places n small, lt-ltb n (10 ^ precision) of) refl
decimal_back precision places (negsuc n) few of =
    let small = size_small (suc n) precision few of in
    rw (point_read places (suc n) small, lt-ltb (suc n) (10 ^ precision) of) refl

-- ---- all forms

form_back : (form : Form) (value : Value) → IsFlatForm form → IsOfForm form value → read_form form (written_form form value) ≡ Some value
form_back Truths (Truth true) flat of = refl
form_back Truths (Truth false) flat of = refl
form_back (Wholes bits signed) (Whole z) flat of = whole_back bits signed z flat of
form_back (FloatBits bits) (Bits n) flat of = bits_back (bits / 4) n (omega (arith, of, (float_width bits flat).power))
form_back Text (Bytes text) flat of = rw of refl
form_back HexBytes (Bytes bytes) flat of = rw (hex_back bytes of) refl
form_back (SizedHex size) (Bytes bytes) flat of =
    rw (eq-eqb (length (hex_text bytes)) (2 * size) (length-hex_text bytes ∙ ap (λ (k : ℕ). 2 * k) of.0), hex_back bytes of.1) refl
form_back (Decimals precision places) (Whole z) flat of = decimal_back precision places z flat of
form_back _ _ flat of = absurd of

some_text : (bytes : List ℕ) → Bytes bytes ≢ Bytes [] → 0 < length bytes
some_text [] some = absurd (some refl)
some_text (b ∷ bs) some = omega arith

written_some : (form : Form) (value : Value) → IsFlatForm form → IsOfForm form value → value ≢ Bytes [] → 0 < length (written_form form value)
written_some Truths (Truth true) flat of some = omega arith
written_some Truths (Truth false) flat of some = omega arith
written_some (Wholes bits signed) (Whole (pos n)) flat of some = (numeral n (in_range_small bits signed n (few_bits bits signed flat) of)).some
written_some (Wholes bits signed) (Whole (negsuc n)) flat of some = omega arith
written_some (FloatBits bits) (Bits n) flat of some = omega (arith, length-last_digits 16 (bits / 4) n, (float_width bits flat).some)
written_some Text (Bytes text) flat of some = some_text text some
written_some HexBytes (Bytes bytes) flat of some = omega (arith, length-hex_text bytes, some_text bytes some)
written_some (SizedHex size) (Bytes bytes) flat of some = omega (arith, length-hex_text bytes, some_text bytes some)
written_some (Decimals precision places) (Whole (pos n)) flat of some = point_some places n (size_small n precision flat of)
written_some (Decimals precision places) (Whole (negsuc n)) flat of some = omega arith
written_some _ _ flat of some = absurd of

-- ---- all kinds

-- a text that is the mark is null, and so is the value that it is the text of; any other is read by its type
read_if : (is : Bool) (text mark : List ℕ) (value : Value) (read : Option Value) → (is ≡ true → text ≡ mark) → (text ≡ mark → value ≡ Null) → read ≡ Some value
    → ◌≡◌ {A = Option Value} (if is then Some Null else read) (Some value)
read_if true text mark value read same null reads = ap Some (sym (null (same refl)))
read_if false text mark value read same null reads = reads

with_form : (mark : List ℕ) (type : DataType) (form : Option Form) (value : Value) → form_of type ≡ form → IsSomeFlat form → IsOfSome form value
    → (written_if form value ≡ mark → value ≡ Null) → read_field mark type (written_if form value) ≡ Some value
with_form mark type None value is flat of null = absurd of
with_form mark type (Some form) value is flat of null =
    read_if (bytes_eq (written_form form value) mark) (written_form form value) mark value _ (bytes_eq-Decides (written_form form value) mark).0 null
    (rw is (form_back form value flat of))

pub mark_is_null : (mark : List ℕ) (type : DataType) → read_field mark type mark ≡ Some Null
mark_is_null mark type = rw ((bytes_eq-Decides mark mark).1 refl) refl

pub reads_back : (type : DataType) (mark : List ℕ) (value : Value) → IsFlatKind type → IsValueOf type value
    → (written_text mark type value ≡ mark → value ≡ Null)
    → read_field mark type (written_text mark type value) ≡ Some value
reads_back type mark Null flat of null = mark_is_null mark type
reads_back type mark (Truth truth) flat of null = with_form mark type (form_of type) (Truth truth) refl flat of null
reads_back type mark (Whole z) flat of null = with_form mark type (form_of type) (Whole z) refl flat of null
reads_back type mark (Bits n) flat of null = with_form mark type (form_of type) (Bits n) refl flat of null
reads_back type mark (Bytes bytes) flat of null = with_form mark type (form_of type) (Bytes bytes) refl flat of null
reads_back type mark (Items items) flat of null = with_form mark type (form_of type) (Items items) refl flat of null
reads_back type mark (Fields fields) flat of null = with_form mark type (form_of type) (Fields fields) refl flat of null

-- ---- empty texts

some_form : (form : Option Form) (value : Value) → IsSomeFlat form → IsOfSome form value → value ≢ Bytes [] → 0 < length (written_if form value)
some_form None value flat of some = absurd of
some_form (Some form) value flat of some = written_some form value flat of some

not_empty : (text : List ℕ) → 0 < length text → text ≡ [] → ⊥
not_empty text some is = let none : length text ≡ 0 = ap length is in omega (arith, some, none)

pub empty_texts : (type : DataType) (value : Value) → IsFlatKind type → IsValueOf type value → written_text [] type value ≡ []
    → (value ≡ Null) ⊎ (value ≡ Bytes [])
empty_texts type Null flat of is = inl refl
empty_texts type (Bytes []) flat of is = inr refl
empty_texts type (Bytes (b ∷ bs)) flat of is = absurd (not_empty _ (some_form (form_of type) (Bytes (b ∷ bs)) flat of (λ e. cc)) is)
empty_texts type (Truth truth) flat of is = absurd (not_empty _ (some_form (form_of type) (Truth truth) flat of (λ e. cc)) is)
empty_texts type (Whole z) flat of is = absurd (not_empty _ (some_form (form_of type) (Whole z) flat of (λ e. cc)) is)
empty_texts type (Bits n) flat of is = absurd (not_empty _ (some_form (form_of type) (Bits n) flat of (λ e. cc)) is)
empty_texts type (Items items) flat of is = absurd (not_empty _ (some_form (form_of type) (Items items) flat of (λ e. cc)) is)
empty_texts type (Fields fields) flat of is = absurd (not_empty _ (some_form (form_of type) (Fields fields) flat of (λ e. cc)) is)
