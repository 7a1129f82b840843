-- What is read is a value of its kind, form by form.
use Rattle.std.proofs.Common.{◌≡◌, ℕ, zero, suc, ◌*◌, ◌/◌, ◌^◌, ◌<◌, ◌≤◌, inl, inr, true, false, List, [], ◌∷◌, length, Option, Some, None, refl, sym, ap}
use Rattle.std.proofs.Common.{subst, arith}
use Rattle.std.specs.Prelude.{pos, neg_ℤ, nat_abs, Bool, nat_lt, nat_le, ◌==◌, ◌&&◌, ◌||◌, if◌then◌else◌}
use Rattle.std.specs.List.{list_all, AllByRecursion}
use Rattle.std.specs.Option.{option_map, option_and_then}
use Rattle.std.specs.Char.{is_ascii_hexdigit, digit_value}
use Rattle.std.specs.Str.{bytes_eq, is_utf8}
use Rattle.std.specs.Str.Parse.{AllDigits, digits_value, signed_digits_value, starts_with_minus, without_leading_sign}
use Rattle.std.proofs.lemmas.Bool.{and_parts, or_cases, leb-true, ltb-true, eqb-true, lt-ltb, le-ltb}
use Rattle.std.specs.Int.{is_in_range}
use Rattle.std.proofs.lemmas.Int.Digits.{digits_value-lt}
use Rattle.data_types.specs.declared.kind.DataType.{DataType}
use Rattle.data_types.specs.promise.Value.{Value, Null, Truth, Whole, Bits, Bytes, Items, Fields}
use Rattle.data_types.specs.promise.FieldText.{Form, is_numeral, in_range, hex_bytes, read_unscaled, read_form, read_field, read_text}
use Rattle.data_types.specs.FieldText.{IsFlatForm, IsSomeFlat}
use Rattle.data_types.specs.promise.FieldText.{form_of}
use Rattle.data_types.specs.FieldText.{IsFlatKind, IsOfForm, IsOfSome, IsValueOf}
use Rattle.data_types.specs.promise.FieldText.Form.{Truths, Wholes, FloatBits, Text, HexBytes, SizedHex, Decimals}
use Rattle.data_types.proofs.FieldLaws.{float_width}

-- ---- answers

same_some : {X : Type 0} (x v : X) → ◌≡◌ {A = Option X} (Some x) (Some v) → x ≡ v
same_some x v e = cc

if_some : {X : Type 0} (b : Bool) (x v : X) → ◌≡◌ {A = Option X} (if b then Some x else None) (Some v) → (b ≡ true) × (x ≡ v)
if_some true x v e = (refl, same_some x v e)
if_some false x v e = absurd cc

if_then : {X : Type 0} (b : Bool) (o : Option X) (v : X) → ◌≡◌ {A = Option X} (if b then o else None) (Some v) → (b ≡ true) × (o ≡ Some v)
if_then true o v e = (refl, e)
if_then false o v e = absurd cc

map_some : {X Y : Type 0} (f : X → Y) (o : Option X) (v : Y) → option_map f o ≡ Some v → (x : X) × (o ≡ Some x) × (f x ≡ v)
map_some f None v e = absurd cc
map_some f (Some x) v e = (x, refl, same_some (f x) v e)

then_some : {X Y : Type 0} (f : X → Option Y) (o : Option X) (v : Y) → option_and_then f o ≡ Some v → (x : X) × (o ≡ Some x) × (f x ≡ Some v)
then_some f None v e = absurd cc
then_some f (Some x) v e = (x, refl, e)

-- ---- forms

truth_read : (yes other : Bool) (v : Value) → ◌≡◌ {A = Option Value} (if yes then Some (Truth true) else if other then Some (Truth false) else None) (Some v)
    → IsOfForm Truths v
truth_read true other v e = subst (λ (x : Value). IsOfForm Truths x) (same_some (Truth true) v e) tt
truth_read false true v e = subst (λ (x : Value). IsOfForm Truths x) (same_some (Truth false) v e) tt
truth_read false false v e = absurd cc

-- ---- hexadecimal digits
decimal_below : (c : ℕ) → 48 ≤ c → c ≤ 57 → digit_value c < 16
decimal_below c low high = rw (le-ltb c 48 low, lt-ltb c 58 (omega arith)) (omega arith)

upper_below : (c : ℕ) → 65 ≤ c → c ≤ 70 → digit_value c < 16
upper_below c low high = rw (le-ltb c 48 (omega arith), le-ltb c 58 (omega arith), le-ltb c 65 low, lt-ltb c 91 (omega arith)) (omega arith)

lower_below : (c : ℕ) → 97 ≤ c → c ≤ 102 → digit_value c < 16
lower_below c low high =
    rw (le-ltb c 48 (omega arith), le-ltb c 58 (omega arith), le-ltb c 65 (omega arith), le-ltb c 91 (omega arith), le-ltb c 97 low, lt-ltb c 123 (omega arith))
    (omega arith)

bounds : (low high c : ℕ) → is_in_range low high c ≡ true → (low ≤ c) × (c ≤ high)
bounds low high c is = let parts = and_parts (nat_le low c) (nat_le c high) is in (leb-true low c parts.0, leb-true c high parts.1)

hex_below : (c : ℕ) → is_ascii_hexdigit c ≡ true → digit_value c < 16
hex_below c is = elim (or_cases (is_in_range 48 57 c || is_in_range 65 70 c) (is_in_range 97 102 c) is) [
  | inl rest ↦ elim (or_cases (is_in_range 48 57 c) (is_in_range 65 70 c) rest) [
    | inl digit ↦ decimal_below c (bounds 48 57 c digit).0 (bounds 48 57 c digit).1
    | inr upper ↦ upper_below c (bounds 65 70 c upper).0 (bounds 65 70 c upper).1
  ]
  | inr lower ↦ lower_below c (bounds 97 102 c lower).0 (bounds 97 102 c lower).1
]

hex_digits : (text : List ℕ) → list_all is_ascii_hexdigit text ≡ true → AllDigits 16 text
hex_digits [] is = tt
hex_digits (c ∷ cs) is =
    let parts = and_parts (is_ascii_hexdigit c) (list_all is_ascii_hexdigit cs) is in
    (hex_below c parts.0, hex_digits cs parts.1)

bits_below : (bits : ℕ) (text : List ℕ) → IsFlatForm (FloatBits bits) → ((length text == bits / 4) && list_all is_ascii_hexdigit text) ≡ true
    → digits_value 16 text < 2 ^ bits
bits_below bits text flat is =
    let parts = and_parts (length text == bits / 4) (list_all is_ascii_hexdigit text) is in
    let len : 16 ^ length text ≡ 16 ^ (bits / 4) = ap (λ (k : ℕ). 16 ^ k) (eqb-true (length text) (bits / 4) parts.0) in
    omega (arith, digits_value-lt 16 text (hex_digits text parts.1), len, (float_width bits flat).power)

record HexRead (text bytes : List ℕ) : Type 0 where
  small : AllByRecursion (λ byte. byte < 256) bytes
  len : length text ≡ 2 * length bytes

hex_read : (text bytes : List ℕ) → hex_bytes text ≡ Some bytes → HexRead text bytes
hex_read [] bytes e = subst (λ (bs : List ℕ). HexRead [] bs) (same_some [] bytes e) (record { small = tt; len = refl })
hex_read (digit ∷ []) bytes e = absurd cc
hex_read (high ∷ low ∷ rest) bytes e =
    let taken = if_then (is_ascii_hexdigit high && is_ascii_hexdigit low) _ bytes e in
    let parts = and_parts (is_ascii_hexdigit high) (is_ascii_hexdigit low) taken.0 in
    let mapped = map_some (λ (bs : List ℕ). digits_value 16 (high ∷ low ∷ []) ∷ bs) (hex_bytes rest) bytes taken.1 in
    let more = hex_read rest mapped.0 mapped.1 in
    subst (λ (bs : List ℕ). HexRead (high ∷ low ∷ rest) bs) mapped.2
    (record { small = (omega (arith, hex_below high parts.0, hex_below low parts.1), more.small); len = omega (arith, more.len) })

size_of : (minus : Bool) (n : ℕ) → nat_abs (if minus then neg_ℤ (pos n) else pos n) ≡ n
size_of true zero = refl
size_of true (suc n) = refl
size_of false n = refl

-- ---- each form
form_read : (form : Form) (text : List ℕ) (v : Value) → IsFlatForm form → read_form form text ≡ Some v → IsOfForm form v
form_read Truths text v flat e = truth_read _ _ v e
form_read (Wholes bits signed) text v flat e =
    let taken =
    if_some (is_numeral (without_leading_sign text) && in_range bits signed (signed_digits_value 10 text)) (Whole (signed_digits_value 10 text)) v e in
    subst (λ (x : Value). IsOfForm (Wholes bits signed) x) taken.1
    (and_parts (is_numeral (without_leading_sign text)) (in_range bits signed (signed_digits_value 10 text)) taken.0).1
form_read (FloatBits bits) text v flat e =
    let taken = if_some ((length text == bits / 4) && list_all is_ascii_hexdigit text) (Bits (digits_value 16 text)) v e in
    subst (λ (x : Value). IsOfForm (FloatBits bits) x) taken.1 (bits_below bits text flat taken.0)
form_read Text text v flat e =
    let taken = if_some (is_utf8 text) (Bytes text) v e in
    subst (λ (x : Value). IsOfForm Text x) taken.1 taken.0
form_read HexBytes text v flat e =
    let mapped = map_some Bytes (hex_bytes text) v e in
    subst (λ (x : Value). IsOfForm HexBytes x) mapped.2 (hex_read text mapped.0 mapped.1).small
form_read (SizedHex size) text v flat e =
    let taken = if_then (length text == 2 * size) (option_map Bytes (hex_bytes text)) v e in
    let mapped = map_some Bytes (hex_bytes text) v taken.1 in
    let read = hex_read text mapped.0 mapped.1 in
    subst (λ (x : Value). IsOfForm (SizedHex size) x) mapped.2 (omega (arith, read.len, eqb-true (length text) (2 * size) taken.0), read.small)
form_read (Decimals precision places) text v flat e =
    let taken =
    then_some (λ (n : ℕ). if nat_lt n (10 ^ precision) then Some (Whole (if starts_with_minus text then neg_ℤ (pos n) else pos n)) else None)
    (read_unscaled places (without_leading_sign text)) v e in
    let fits = if_some (nat_lt taken.0 (10 ^ precision)) (Whole (if starts_with_minus text then neg_ℤ (pos taken.0) else pos taken.0)) v taken.2 in
    subst (λ (x : Value). IsOfForm (Decimals precision places) x) fits.1
    (omega (arith, size_of (starts_with_minus text) taken.0, ltb-true taken.0 (10 ^ precision) fits.0))

-- ---- all kinds

value_of : (type : DataType) (v : Value) → IsOfSome (form_of type) v → IsValueOf type v
value_of type Null of = tt
value_of type (Truth truth) of = of
value_of type (Whole z) of = of
value_of type (Bits n) of = of
value_of type (Bytes bytes) of = of
value_of type (Items items) of = of
value_of type (Fields fields) of = of

read_value : (is : Bool) (type : DataType) (text : List ℕ) (v : Value) → IsFlatKind type
    → ◌≡◌ {A = Option Value} (if is then Some Null else read_text type text) (Some v) → IsValueOf type v
read_value true type text v flat e = subst (λ (x : Value). IsValueOf type x) (same_some Null v e) tt
read_value false type text v flat e =
    let taken = then_some (λ (form : Form). read_form form text) (form_of type) v e in
    let is = form_read taken.0 text v (subst (λ (o : Option Form). IsSomeFlat o) taken.1 flat) taken.2 in
    value_of type v (subst (λ (o : Option Form). IsOfSome o v) (sym taken.1) is)

pub read_is_value : (type : DataType) (mark text : List ℕ) (v : Value) → IsFlatKind type → read_field mark type text ≡ Some v → IsValueOf type v
read_is_value type mark text v flat e = read_value (bytes_eq text mark) type text v flat e
