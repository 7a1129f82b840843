-- Decimal digits in front of a text.
use Rattle.std.proofs.Common.{◌≡◌, ℕ, suc, ◌+◌, ◌-◌, ◌*◌, ◌^◌, ◌<◌, ◌≤◌, ◌≢◌, ◌⊎◌, true, false, List, [], ◌∷◌, length, take, get_or, refl, sym, ap, ◌∙◌, arith}
use Rattle.std.proofs.Common.{Option, Some, None, inl, inr}
use Rattle.std.specs.Prelude.{IfNone, IfSome}
use Rattle.std.specs.List.{prefix_len}
use Rattle.std.specs.Char.{is_ascii_digit, digit_value}
use Rattle.std.specs.Str.Parse.{digits_value}
use Rattle.std.specs.Str.{all_ascii_digits}
use Rattle.std.proofs.lemmas.Bool.{and_parts, leb-true, cases_Bool, false≢true, lt-ltb, cases_lt}
use Rattle.std.proofs.lemmas.List.{take-take, take_all}
use Rattle.data_types.specs.promise.FieldText.{is_numeral}
use Rattle.std.proofs.lemmas.Str.{digit_value_digit}
use Rattle.std.proofs.lemmas.Int.Digits.{digits_value_more}
use Rattle.std.proofs.lemmas.List.Sums.{prefix_len_is, prefix_len-le-length, prefix_len_stops}
use Rattle.std.proofs.Math.Nat.{pow-succ', pow-le-pow_right}
use Rattle.std.proofs.lemmas.Str.Parse.{digits_value-take-le}
use borrow.Author.Count.{below_more}

pub record IsDigit (c : ℕ) : Type 0 where
  pub low : 48 ≤ c
  pub high : c ≤ 57
  pub value : digit_value c ≡ c - 48

pub digit_is : (c : ℕ) → is_ascii_digit c ≡ true → IsDigit c
digit_is c is =
    let parts = and_parts _ _ is in
    let low : 48 ≤ c = leb-true 48 c parts.0 in
    let high : c ≤ 57 = leb-true c 57 parts.1 in
    record { low = low; high = high; value = omega (arith, digit_value_digit c (low, high)) }

-- the first bytes are digits that write the number
pub record Front (text : List ℕ) (count value : ℕ) : Type 0 where
  pub digits : (k : ℕ) → k < count → is_ascii_digit (get_or text k 0) ≡ true
  pub writes : value ≡ digits_value 10 (take count text)

pub front_none : (text : List ℕ) → Front text 0 0
front_none text = record { digits = λ k none. absurd (omega (arith, none)); writes = refl }

pub front_len : (text : List ℕ) (count value : ℕ) → Front text count value → count ≤ length text
    → (count < length text → is_ascii_digit (get_or text count 0) ≡ false) → count ≡ prefix_len is_ascii_digit text
front_len text count value front within ends = sym (prefix_len_is is_ascii_digit text count 0 within front.digits ends)

-- one digit more keeps a number below the power of its length
pub more_small : (value count digit next : ℕ) → value < 10 ^ count → digit ≤ 9 → next ≡ value * 10 + digit → next < 10 ^ (count + 1)
more_small value count digit next small one e =
    let more : count + 1 ≡ suc count = omega arith in
    rw more (omega (arith, small, one, e, pow-succ' 10 count))

pub few_digits : (count most : ℕ) → count ≤ most → 10 ^ count ≤ 10 ^ most
few_digits count most few = pow-le-pow_right {n = 10} (omega arith) {i = count} {j = most} few

-- ---- a digit that follows the front, and a number that grows too large
module _ (text : List ℕ) (count value : ℕ) (front : Front text count value)
    (within : count < length text) (is : is_ascii_digit (get_or text count 0) ≡ true) where
  pub front_more : (next : ℕ) → next ≡ value * 10 + (get_or text count 0 - 48) → Front text (count + 1) next
  front_more next e = record {
    digits = below_more (λ k. is_ascii_digit (get_or text k 0) ≡ true) count front.digits is;
    writes = e ∙ ap (λ (x : ℕ). x * 10 + (get_or text count 0 - 48)) front.writes
        ∙ ap (λ (x : ℕ). digits_value 10 (take count text) * 10 + x) (sym (digit_is (get_or text count 0) is).value)
        ∙ sym (digits_value_more 10 text count within);
  }

  one_more : Front text (count + 1) (value * 10 + (get_or text count 0 - 48))
  one_more = front_more (value * 10 + (get_or text count 0 - 48)) refl

  past_front : count < prefix_len is_ascii_digit text
  past_front = elim (cases_lt (prefix_len is_ascii_digit text) (count + 1)) [
    | inl early ↦
        let stops : is_ascii_digit (get_or text (prefix_len is_ascii_digit text) 0) ≡ false =
        prefix_len_stops is_ascii_digit text 0 (omega (arith, early, within)) in
        absurd (false≢true (sym stops ∙ one_more.digits (prefix_len is_ascii_digit text) early))
    | inr late ↦ omega (arith, late)
  ]

  pub front_large : 10 ^ 37 ≤ value → 10 ^ 38 ≤ digits_value 10 (take (prefix_len is_ascii_digit text) text)
  front_large large =
      let len = prefix_len is_ascii_digit text in
      let same : digits_value 10 (take (count + 1) (take len text)) ≡ digits_value 10 (take (count + 1) text) =
      ap (digits_value 10) (take-take (count + 1) len text (omega (arith, past_front))) in
      omega (arith, digits_value-take-le 10 (take len text) (count + 1) (omega arith), same, one_more.writes, large)

-- ---- a text of digits alone

all_digits : (text : List ℕ) → prefix_len is_ascii_digit text ≡ length text → all_ascii_digits text ≡ true
all_digits [] e = refl
all_digits (c ∷ cs) e = elim (cases_Bool (is_ascii_digit c)) [
  | inl is ↦ let rest : 1 + prefix_len is_ascii_digit cs ≡ suc (length cs) = rw is at e in rw (is, all_digits cs (omega (arith, rest))) refl
  | inr other ↦ let none : 0 ≡ suc (length cs) = rw other at e in absurd (omega (arith, none))
]

other_bytes : (text : List ℕ) → prefix_len is_ascii_digit text < length text → all_ascii_digits text ≡ false
other_bytes [] short = absurd (omega (arith, short))
other_bytes (c ∷ cs) short = elim (cases_Bool (is_ascii_digit c)) [
  | inl is ↦ let rest : 1 + prefix_len is_ascii_digit cs < suc (length cs) = rw is at short in rw (is, other_bytes cs (omega (arith, rest))) refl
  | inr other ↦ rw other refl
]

-- the front is the whole text
pub record Numeral (text : List ℕ) (number : ℕ) : Type 0 where
  pub is : is_numeral text ≡ true
  pub writes : number ≡ digits_value 10 text

pub whole_front : (text : List ℕ) (count number : ℕ) → count ≡ prefix_len is_ascii_digit text → number ≡ digits_value 10 (take count text) → count ≢ 0
    → length text ≤ count → Numeral text number
whole_front text count number len writes some whole =
    let within = prefix_len-le-length is_ascii_digit text in
    record {
      is = rw (lt-ltb 0 (length text) (omega (arith, some, within, len)), all_digits text (omega (arith, len, within, whole))) refl;
      writes = writes ∙ ap (digits_value 10) (take_all count text whole);
    }

pub all_front : (text : List ℕ) (count : ℕ) → count ≡ prefix_len is_ascii_digit text → length text ≤ count → all_ascii_digits text ≡ true
all_front text count len whole = all_digits text (omega (arith, len, whole, prefix_len-le-length is_ascii_digit text))

pub part_digits : (text : List ℕ) (count : ℕ) → count ≡ prefix_len is_ascii_digit text → count < length text → all_ascii_digits text ≡ false
part_digits text count len short = other_bytes text (omega (arith, len, short))

pub part_front : (text : List ℕ) (count : ℕ) → count ≡ prefix_len is_ascii_digit text → (count ≡ 0) ⊎ (count < length text) → is_numeral text ≡ false
part_front [] count len why = refl
part_front (c ∷ cs) count len (inl none) = rw (lt-ltb 0 (suc (length cs)) (omega arith), other_bytes (c ∷ cs) (omega (arith, none, len))) refl
part_front (c ∷ cs) count len (inr short) = rw (lt-ltb 0 (suc (length cs)) (omega arith), other_bytes (c ∷ cs) (omega (arith, short, len))) refl

pub large_text : (text : List ℕ) → 10 ^ 38 ≤ digits_value 10 (take (prefix_len is_ascii_digit text) text) → 2 ^ 64 ≤ digits_value 10 text
large_text text large = omega (arith, large, digits_value-take-le 10 text (prefix_len is_ascii_digit text) (omega arith))

-- a text of digits, where it is one
pub numeral_some : (text : List ℕ) (number : Option ℕ) → length text ≢ 0 → IfSome number (λ n. prefix_len is_ascii_digit text ≡ length text)
    → IfSome number (λ n. is_numeral text ≡ true)
numeral_some text None some all = tt
numeral_some text (Some n) some all = rw (lt-ltb 0 (length text) (omega (arith, some)), all_digits text all) refl

pub numeral_none : (text : List ℕ) (number : Option ℕ) → IfNone number (prefix_len is_ascii_digit text < length text)
    → IfNone number ((is_numeral text ≡ false) ⊎ (2 ^ 64 ≤ digits_value 10 text))
numeral_none text None short = inl (part_front text (prefix_len is_ascii_digit text) refl (inr short))
numeral_none text (Some n) short = tt
