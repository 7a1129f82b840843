-- Hexadecimal digits: the numbers and the bytes that they write.
use Rattle.std.proofs.Common.{◌≡◌, ℕ, zero, suc, ◌+◌, ◌-◌, ◌*◌, ◌/◌, ◌%◌, ◌^◌, ◌<◌, ◌≤◌, true, false, List, [], ◌∷◌, ◌++◌, length, take, drop, get_or, Option, Some, None}
use Rattle.std.proofs.Common.{refl, sym, ap, subst, ◌∙◌, append_assoc, arith, inl, inr, length-drop}
use Rattle.std.specs.Prelude.{◌&&◌, nat_le, if◌then◌else◌}
use Rattle.std.specs.Int.{byte_at, bytes_high_first, is_in_range, to_be_bytes, w64}
use Rattle.std.specs.List.{list_all}
use Rattle.std.specs.Option.{option_map}
use Rattle.std.specs.Char.{is_ascii_hexdigit, digit_value}
use Rattle.std.specs.Fmt.{digit_glyph}
use Rattle.std.specs.Str.Parse.{digits_value, digits_value_after}
use Rattle.std.specs.Int.Bits.{bit_or}
use Rattle.std.proofs.lemmas.Bool.{and_parts, cases_Bool, cases_lt, lt-ltb, le-ltb, leb-true, eq-eqb, false≢true}
use Rattle.std.proofs.lemmas.Int.Digits.{digits_value_more}
use Rattle.std.proofs.lemmas.List.{append-nil, drop_all, length-take-le, take-append-drop, take_all}
use Rattle.std.proofs.lemmas.List.Folds.{list_all_more}
use Rattle.std.proofs.lemmas.Nat.{le_or_l, le_or_r, or_lt}
use Rattle.std.proofs.lemmas.Str.{digit_value_digit}
use Rattle.std.proofs.Math.Bool.{and-false}
use Rattle.std.proofs.Math.Seq.{take-add}
use Rattle.std.proofs.Math.Nat.{pow-succ', pow-zero, pow-le-pow_right, div-div-eq-div-mul}
use Rattle.data_types.specs.promise.FieldText.{hex_bytes, hex_text, last_digits}
use Rattle.data_types.specs.FieldText.{read_bits}
use Rattle.data_types.specs.promise.Value.{Bits}
use borrow.Rule.Slice.PartMut.{put_mid}

-- ---- the number of digits in front

pub record HexFront (text : List ℕ) (count number : ℕ) : Type 0 where
  pub digits : list_all is_ascii_hexdigit (take count text) ≡ true
  pub writes : number ≡ digits_value 16 (take count text)
  pub small : number < 16 ^ count

pub hex_none : (text : List ℕ) → HexFront text 0 0
hex_none text = record { digits = refl; writes = refl; small = omega arith }

pub hex_more : (text : List ℕ) (count number digit next : ℕ) → HexFront text count number → count < length text → is_ascii_hexdigit (get_or text count 0) ≡ true
    → digit ≡ digit_value (get_or text count 0) → digit < 16 → next ≡ number * 16 + digit → HexFront text (count + 1) next
hex_more text count number digit next front within is value small e =
    let more : count + 1 ≡ suc count = omega arith in
    record {
      digits = list_all_more is_ascii_hexdigit text count 0 within ∙ rw (front.digits, is) refl;
      writes = e ∙ ap (λ (x : ℕ). x * 16 + digit) front.writes ∙ ap (λ (x : ℕ). digits_value 16 (take count text) * 16 + x) value
          ∙ sym (digits_value_more 16 text count within);
      small = rw more (omega (arith, front.small, small, e, pow-succ' 16 count));
    }

pub few_hex : (count most : ℕ) → count ≤ most → 16 ^ count ≤ 16 ^ most
few_hex count most few = pow-le-pow_right {n = 16} (omega arith) {i = count} {j = most} few

-- what each digit so far has been put into is at most 15, or a byte so far is no digit
pub record HexRead (text : List ℕ) (count number all : ℕ) : Type 0 where
  pub front : all ≤ 15 → HexFront text count number
  pub other : 16 ≤ all → list_all is_ascii_hexdigit (take count text) ≡ false

pub read_none : (text : List ℕ) → HexRead text 0 0 0
read_none text = record { front = λ low. hex_none text; other = λ some. absurd (omega (arith, some)) }

hex_digit_small : (c : ℕ) → is_ascii_hexdigit c ≡ true → digit_value c < 16
hex_digit_small c is = elim (cases_Bool (is_in_range 48 57 c)) [
  | inl digit ↦
      let parts = and_parts (nat_le 48 c) (nat_le c 57) digit in
      let low : 48 ≤ c = leb-true 48 c parts.0 in
      let high : c ≤ 57 = leb-true c 57 parts.1 in
      omega (arith, digit_value_digit c (low, high), high)
  | inr letter ↦ elim (cases_Bool (is_in_range 65 70 c)) [
    | inl upper ↦
        let parts = and_parts (nat_le 65 c) (nat_le c 70) upper in
        let low : 65 ≤ c = leb-true 65 c parts.0 in
        let high : c ≤ 70 = leb-true c 70 parts.1 in
        rw (le-ltb c 48 (omega (arith, low)), le-ltb c 58 (omega (arith, low)), le-ltb c 65 low, lt-ltb c 91 (omega (arith, high))) (omega (arith, high))
    | inr lower ↦
        let parts = and_parts (nat_le 97 c) (nat_le c 102) (rw (letter, lower) at is) in
        let low : 97 ≤ c = leb-true 97 c parts.0 in
        let high : c ≤ 102 = leb-true c 102 parts.1 in
        rw (
          le-ltb c 48 (omega (arith, low)),
          le-ltb c 58 (omega (arith, low)),
          le-ltb c 65 (omega (arith, low)),
          le-ltb c 91 (omega (arith, low)),
          le-ltb c 97 low,
          lt-ltb c 123 (omega (arith, high)),
        ) (omega (arith, high))
  ]
]

pub read_more : (text : List ℕ) (count number all digit next : ℕ) → count < length text → count < 16
    → digit ≡ (if is_ascii_hexdigit (get_or text count 0) then digit_value (get_or text count 0) else 16)
    → next ≡ (number * 16 % 2 ^ 64 + digit) % 2 ^ 64
    → HexRead text count number all → HexRead text (count + 1) next (bit_or all digit)
read_more text count number all digit next within few value e read = elim (cases_Bool (is_ascii_hexdigit (get_or text count 0))) [
  | inl is ↦
      let c = get_or text count 0 in
      let same : digit ≡ digit_value c = rw is at value in
      let small : digit < 16 = omega (arith, same, hex_digit_small c is) in
      record {
        front = λ low.
            let front = read.front (omega (arith, low, le_or_l all digit)) in
            hex_more text count number digit next front within is same small (omega (arith, e, front.small, few_hex count 15 (omega (arith, few)), small));
        other = λ high. elim (cases_lt all 16) [
          | inl low ↦ let most : bit_or all digit < 2 ^ 4 = or_lt 4 all digit (omega (arith, low)) (omega (arith, small)) in absurd (omega (arith, high, most))
          | inr past ↦ list_all_more is_ascii_hexdigit text count 0 within ∙ rw (read.other past) refl
        ];
      }
  | inr not ↦
      let same : digit ≡ 16 = rw not at value in
      record {
        front = λ low. absurd (omega (arith, low, le_or_r all digit, same));
        other = λ high. list_all_more is_ascii_hexdigit text count 0 within ∙ rw not (and-false _);
      }
]

pub hex_read : (text : List ℕ) (count number all : ℕ) → HexRead text count number all → length text ≤ count → all ≤ 15
    → read_bits (length text) text ≡ Some (Bits number)
hex_read text count number all read whole low =
    let front = read.front low in
    let same = take_all count text whole in
    let digits : list_all is_ascii_hexdigit text ≡ true = ap (list_all is_ascii_hexdigit) (sym same) ∙ front.digits in
    let value : number ≡ digits_value 16 text = front.writes ∙ ap (digits_value 16) same in
    rw (eq-eqb (length text) (length text) refl, digits) (ap (λ (n : ℕ). Some (Bits n)) (sym value))

pub hex_other : (text : List ℕ) (count number all : ℕ) → HexRead text count number all → length text ≤ count → 16 ≤ all → read_bits (length text) text ≡ None
hex_other text count number all read whole high =
    let other : list_all is_ascii_hexdigit text ≡ false = ap (list_all is_ascii_hexdigit) (sym (take_all count text whole)) ∙ read.other high in
    rw (eq-eqb (length text) (length text) refl, other) refl

-- ---- digits of a number

pub power_of_2 : (k : ℕ) → 2 ^ (4 * k) ≡ 16 ^ k
power_of_2 zero = refl
power_of_2 (suc k) =
    let more : 4 * suc k ≡ suc (suc (suc (suc (4 * k)))) = omega arith in
    rw more (omega (
      arith,
      pow-succ' 2 (suc (suc (suc (4 * k)))),
      pow-succ' 2 (suc (suc (4 * k))),
      pow-succ' 2 (suc (4 * k)),
      pow-succ' 2 (4 * k),
      pow-succ' 16 k,
      power_of_2 k,
    ))

-- one digit more of a number, of which this many are behind it
pub next_digit : (place behind left number : ℕ) (text : List ℕ) → text ≡ last_digits 16 place (number / 16 ^ left) → left ≡ suc behind
    → text ++ (digit_glyph false (number / 16 ^ behind % 16) ∷ []) ≡ last_digits 16 (suc place) (number / 16 ^ behind)
next_digit place behind left number text e is =
    let front : number / 16 ^ left ≡ number / 16 ^ behind / 16 =
    ap (λ (k : ℕ). number / 16 ^ k) is ∙ ap (λ (x : ℕ). number / x) (pow-succ' 16 behind ∙ omega arith) ∙ sym (div-div-eq-div-mul number (16 ^ behind) 16) in
    ap (λ (t : List ℕ). t ++ (digit_glyph false (number / 16 ^ behind % 16) ∷ [])) (e ∙ ap (last_digits 16 place) front)

-- ---- bytes by pairs of digits

byte_at-is : (i n : ℕ) → byte_at i n ≡ n / 256 ^ i % 256
byte_at-is zero n = let one : n / 1 ≡ n = omega arith in sym (ap (λ (p : ℕ). n / p % 256) (pow-zero 256) ∙ ap (λ (x : ℕ). x % 256) one)
byte_at-is (suc i) n = refl

both_digits : (high low : ℕ) (rest : List ℕ) → list_all is_ascii_hexdigit (high ∷ low ∷ rest) ≡ true
    → (is_ascii_hexdigit high ≡ true) × (is_ascii_hexdigit low ≡ true) × (list_all is_ascii_hexdigit rest ≡ true)
both_digits high low rest is =
    let first = and_parts (is_ascii_hexdigit high) (list_all is_ascii_hexdigit (low ∷ rest)) is in
    let second = and_parts (is_ascii_hexdigit low) (list_all is_ascii_hexdigit rest) first.1 in
    (first.0, second.0, second.1)

-- a number is what is left above the digits that are put behind it
above_pairs : (k value : ℕ) (text : List ℕ) → length text ≡ 2 * k → list_all is_ascii_hexdigit text ≡ true
    → digits_value_after 16 value text / 256 ^ k ≡ value
above_pairs zero value [] len is = let one : value / 1 ≡ value = omega arith in ap (λ (p : ℕ). value / p) (pow-zero 256) ∙ one
above_pairs zero value (c ∷ cs) len is = absurd (omega (arith, len))
above_pairs (suc k) value [] len is = absurd (omega (arith, len))
above_pairs (suc k) value (c ∷ []) len is = absurd (omega (arith, len))
above_pairs (suc k) value (high ∷ low ∷ rest) len is =
    let digits = both_digits high low rest is in
    let next = (value * 16 + digit_value high) * 16 + digit_value low in
    let all = digits_value_after 16 next rest in
    let turned : 256 * 256 ^ k ≡ 256 ^ k * 256 = omega arith in
    ap (λ (p : ℕ). all / p) (pow-succ' 256 k ∙ turned) ∙ sym (div-div-eq-div-mul all (256 ^ k) 256)
    ∙ ap (λ (x : ℕ). x / 256) (above_pairs k next rest (omega (arith, len)) digits.2)
    ∙ omega (arith, hex_digit_small high digits.0, hex_digit_small low digits.1)

pairs_read : (k value : ℕ) (text : List ℕ) → length text ≡ 2 * k → list_all is_ascii_hexdigit text ≡ true
    → hex_bytes text ≡ Some (bytes_high_first k (digits_value_after 16 value text))
pairs_read zero value [] len is = refl
pairs_read zero value (c ∷ cs) len is = absurd (omega (arith, len))
pairs_read (suc k) value [] len is = absurd (omega (arith, len))
pairs_read (suc k) value (c ∷ []) len is = absurd (omega (arith, len))
pairs_read (suc k) value (high ∷ low ∷ rest) len is =
    let digits = both_digits high low rest is in
    let next = (value * 16 + digit_value high) * 16 + digit_value low in
    let all = digits_value_after 16 next rest in
    let same : byte_at k all ≡ next % 256 = byte_at-is k all ∙ ap (λ (x : ℕ). x % 256) (above_pairs k next rest (omega (arith, len)) digits.2) in
    let byte : (0 * 16 + digit_value high) * 16 + digit_value low ≡ byte_at k all =
    omega (arith, same, hex_digit_small high digits.0, hex_digit_small low digits.1) in
    rw (digits.0, digits.1, pairs_read k next rest (omega (arith, len)) digits.2)
    (ap (λ (b : ℕ). Some (b ∷ bytes_high_first k all)) byte)

pairs_none : (text : List ℕ) → list_all is_ascii_hexdigit text ≡ false → hex_bytes text ≡ None
pairs_none [] other = absurd (false≢true (sym other))
pairs_none (c ∷ []) other = refl
pairs_none (high ∷ low ∷ rest) other = elim (cases_Bool (is_ascii_hexdigit high && is_ascii_hexdigit low)) [
  | inl is ↦ let pair = and_parts (is_ascii_hexdigit high) (is_ascii_hexdigit low) is in rw (is, pairs_none rest (rw (pair.0, pair.1) at other)) refl
  | inr not ↦ rw not refl
]

some_bits : (number : Option ℕ) (n : ℕ) → option_map Bits number ≡ Some (Bits n) → number ≡ Some n
some_bits None n e = absurd cc
some_bits (Some m) n e = cc

no_bits : (number : Option ℕ) → option_map Bits number ≡ None → number ≡ None
no_bits None e = refl
no_bits (Some m) e = absurd cc

pub eight_read : (number : Option ℕ) (text : List ℕ) → length text ≡ 16 → option_map Bits number ≡ read_bits (length text) text
    → option_map (to_be_bytes w64) number ≡ hex_bytes text
eight_read number text len is = elim (cases_Bool (list_all is_ascii_hexdigit text)) [
  | inl digits ↦
      let read : read_bits (length text) text ≡ Some (Bits (digits_value 16 text)) = rw (eq-eqb (length text) (length text) refl, digits) refl in
      ap (option_map (to_be_bytes w64)) (some_bits number (digits_value 16 text) (is ∙ read)) ∙ sym (pairs_read 8 0 text (omega (arith, len)) digits)
  | inr other ↦
      let none : read_bits (length text) text ≡ None = rw (eq-eqb (length text) (length text) refl, other) refl in
      ap (option_map (to_be_bytes w64)) (no_bits number (is ∙ none)) ∙ sym (pairs_none text other)
]

-- ---- pairs of digits behind others

map_some : (f : List ℕ → List ℕ) (o : Option (List ℕ)) (v : List ℕ) → option_map f o ≡ Some v → (x : List ℕ) × (o ≡ Some x) × (f x ≡ v)
map_some f None v e = absurd cc
map_some f (Some x) v e = (x, refl, cc)

map_none : (f : List ℕ → List ℕ) (o : Option (List ℕ)) → option_map f o ≡ None → o ≡ None
map_none f None e = refl
map_none f (Some x) e = absurd cc

pub pairs_behind : (k : ℕ) (text rest front back : List ℕ) → length text ≡ 2 * k → hex_bytes text ≡ Some front → hex_bytes rest ≡ Some back
    → hex_bytes (text ++ rest) ≡ Some (front ++ back)
pairs_behind zero [] rest front back len is behind = let none : [] ≡ front = cc in subst (λ (bs : List ℕ). hex_bytes rest ≡ Some (bs ++ back)) none behind
pairs_behind zero (c ∷ cs) rest front back len is behind = absurd (omega (arith, len))
pairs_behind (suc k) [] rest front back len is behind = absurd (omega (arith, len))
pairs_behind (suc k) (c ∷ []) rest front back len is behind = absurd (omega (arith, len))
pairs_behind (suc k) (high ∷ low ∷ more) rest front back len is behind = elim (cases_Bool (is_ascii_hexdigit high && is_ascii_hexdigit low)) [
  | inl digits ↦
      let mapped = map_some (λ (bs : List ℕ). digits_value 16 (high ∷ low ∷ []) ∷ bs) (hex_bytes more) front (rw digits at is) in
      rw (digits, pairs_behind k more rest mapped.0 back (omega (arith, len)) mapped.1 behind) (ap (λ (bs : List ℕ). Some (bs ++ back)) mapped.2)
  | inr other ↦ let none : ◌≡◌ {A = Option (List ℕ)} None (Some front) = rw other at is in absurd cc
]

pub none_behind : (k : ℕ) (text rest : List ℕ) → length text ≡ 2 * k → hex_bytes rest ≡ None → hex_bytes (text ++ rest) ≡ None
none_behind zero [] rest len none = none
none_behind zero (c ∷ cs) rest len none = absurd (omega (arith, len))
none_behind (suc k) [] rest len none = absurd (omega (arith, len))
none_behind (suc k) (c ∷ []) rest len none = absurd (omega (arith, len))
none_behind (suc k) (high ∷ low ∷ more) rest len none = elim (cases_Bool (is_ascii_hexdigit high && is_ascii_hexdigit low)) [
  | inl digits ↦ rw (digits, none_behind k more rest (omega (arith, len)) none) refl
  | inr other ↦ rw other refl
]

pub none_before : (k : ℕ) (text rest : List ℕ) → length text ≡ 2 * k → hex_bytes text ≡ None → hex_bytes (text ++ rest) ≡ None
none_before zero [] rest len none = absurd cc
none_before zero (c ∷ cs) rest len none = absurd (omega (arith, len))
none_before (suc k) [] rest len none = absurd (omega (arith, len))
none_before (suc k) (c ∷ []) rest len none = absurd (omega (arith, len))
none_before (suc k) (high ∷ low ∷ more) rest len none = elim (cases_Bool (is_ascii_hexdigit high && is_ascii_hexdigit low)) [
  | inl digits ↦
      let left = map_none (λ (bs : List ℕ). digits_value 16 (high ∷ low ∷ []) ∷ bs) (hex_bytes more) (rw digits at none) in
      rw (digits, none_before k more rest (omega (arith, len)) left) refl
  | inr other ↦ rw other refl
]

-- ---- bytes by eights

-- the bytes of this many eights are in the room
pub record Eights (text : List ℕ) (place size : ℕ) (room : List ℕ) : Type 0 where
  pub len : length room ≡ size
  pub read : hex_bytes (take (16 * place) text) ≡ Some (take (8 * place) room)

pub eights_none : (text room : List ℕ) → Eights text 0 (length room) room
eights_none text room = record { len = refl; read = refl }

even_front : (place : ℕ) (text : List ℕ) → 16 * place ≤ length text → length (take (16 * place) text) ≡ 2 * (8 * place)
even_front place text within = omega (arith, length-take-le (16 * place) text within)

pub eights_more : (text room new eight : List ℕ) (place size : ℕ) → Eights text place size room → 16 * place + 16 ≤ length text
    → hex_bytes (take 16 (drop (16 * place) text)) ≡ Some eight → length new ≡ length room
    → take (8 * place + 8) new ≡ take (8 * place) room ++ eight → Eights text (place + 1) size new
eights_more text room new eight place size so_far within is len put =
    let digits : 16 * (place + 1) ≡ 16 * place + 16 = omega arith in
    let bytes : 8 * (place + 1) ≡ 8 * place + 8 = omega arith in
    let read =
    pairs_behind (8 * place) (take (16 * place) text) (take 16 (drop (16 * place) text)) (take (8 * place) room) eight
    (even_front place text (omega (arith, within))) so_far.read is in
    record {
      len = len ∙ so_far.len;
      read = ap (λ (k : ℕ). hex_bytes (take k text)) digits ∙ ap hex_bytes (take-add (16 * place) 16 text) ∙ read
          ∙ ap (λ (bs : List ℕ). Some bs) (sym put ∙ ap (λ (k : ℕ). take k new) (sym bytes));
    }

pub eights_other : (text : List ℕ) (place : ℕ) → 16 * place + 16 ≤ length text → hex_bytes (take 16 (drop (16 * place) text)) ≡ None → hex_bytes text ≡ None
eights_other text place within none =
    let rest : List ℕ = drop (16 * place) text in
    let sixteen : length (take 16 rest) ≡ 2 * 8 = omega (arith, length-take-le 16 rest (omega (arith, within, length-drop (16 * place) text))) in
    let behind : hex_bytes rest ≡ None = ap hex_bytes (sym (take-append-drop 16 rest)) ∙ none_before 8 (take 16 rest) (drop 16 rest) sixteen none in
    ap hex_bytes (sym (take-append-drop (16 * place) text))
    ∙ none_behind (8 * place) (take (16 * place) text) rest (even_front place text (omega (arith, within))) behind

pub eights_end : (text room out : List ℕ) (place size : ℕ) → Eights text place size room → 16 * place ≤ length text
    → hex_bytes (drop (16 * place) text) ≡ Some out → hex_bytes text ≡ Some (take (8 * place) room ++ out)
eights_end text room out place size so_far within is =
    ap hex_bytes (sym (take-append-drop (16 * place) text))
    ∙ pairs_behind (8 * place) (take (16 * place) text) (drop (16 * place) text) (take (8 * place) room) out (even_front place text within) so_far.read is

pub eights_end_other : (text : List ℕ) (place : ℕ) → 16 * place ≤ length text → hex_bytes (drop (16 * place) text) ≡ None → hex_bytes text ≡ None
eights_end_other text place within none =
    ap hex_bytes (sym (take-append-drop (16 * place) text))
    ∙ none_behind (8 * place) (take (16 * place) text) (drop (16 * place) text) (even_front place text within) none

-- what is put into the rest of a room is behind what is there
pub put_behind : (at : ℕ) (room out : List ℕ) → at ≤ length room → put_mid at (length room - at) room out ≡ take at room ++ out
put_behind at room out within =
    ap (λ (rest : List ℕ). take at room ++ (out ++ rest)) (drop_all (length room - at) (drop at room) (omega (arith, length-drop at room)))
    ∙ ap (λ (bs : List ℕ). take at room ++ bs) (append-nil out)

-- the two digits of a byte are those of the number that it ends
byte_digits : (n : ℕ) → last_digits 16 2 (n % 256) ≡ last_digits 16 2 n
byte_digits n =
    let high : n % 256 / 16 % 16 ≡ n / 16 % 16 = omega arith in
    let low : n % 256 % 16 ≡ n % 16 = omega arith in
    rw (high, low) refl

two_in_front : (k n : ℕ) → last_digits 16 (suc (suc k)) n ≡ last_digits 16 2 (n / 16 ^ k) ++ last_digits 16 k n
two_in_front zero n =
    let one : n / 1 ≡ n = omega arith in
    sym (append-nil (last_digits 16 2 (n / 16 ^ 0)) ∙ ap (λ (p : ℕ). last_digits 16 2 (n / p)) (pow-zero 16) ∙ ap (last_digits 16 2) one)
two_in_front (suc k) n =
    let digit : List ℕ = digit_glyph false (n % 16) ∷ [] in
    let left : n / 16 / 16 ^ k ≡ n / 16 ^ suc k = div-div-eq-div-mul n 16 (16 ^ k) ∙ ap (λ (p : ℕ). n / p) (sym (pow-succ' 16 k)) in
    ap (λ (ds : List ℕ). ds ++ digit) (two_in_front k (n / 16))
    ∙ append_assoc (last_digits 16 2 (n / 16 / 16 ^ k)) (last_digits 16 k (n / 16)) digit
    ∙ ap (λ (x : ℕ). last_digits 16 2 x ++ (last_digits 16 k (n / 16) ++ digit)) left

power_of_16 : (k : ℕ) → 16 ^ (2 * k) ≡ 256 ^ k
power_of_16 zero = refl
power_of_16 (suc k) =
    let more : 2 * suc k ≡ suc (suc (2 * k)) = omega arith in
    rw more (omega (arith, pow-succ' 16 (suc (2 * k)), pow-succ' 16 (2 * k), pow-succ' 256 k, power_of_16 k))

pub bytes_written : (k n : ℕ) → hex_text (bytes_high_first k n) ≡ last_digits 16 (2 * k) n
bytes_written zero n = refl
bytes_written (suc k) n =
    let more : 2 * suc k ≡ suc (suc (2 * k)) = omega arith in
    let pair : last_digits 16 2 (byte_at k n) ≡ last_digits 16 2 (n / 16 ^ (2 * k)) =
    ap (last_digits 16 2) (byte_at-is k n) ∙ byte_digits (n / 256 ^ k) ∙ ap (λ (p : ℕ). last_digits 16 2 (n / p)) (sym (power_of_16 k)) in
    ap (λ (ds : List ℕ). ds ++ hex_text (bytes_high_first k n)) pair
    ∙ ap (λ (ds : List ℕ). last_digits 16 2 (n / 16 ^ (2 * k)) ++ ds) (bytes_written k n)
    ∙ sym (two_in_front (2 * k) n)
    ∙ ap (λ (m : ℕ). last_digits 16 m n) (sym more)
