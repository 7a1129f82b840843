-- The bytes that pairs of hexadecimal digits write are those that crate hex decodes.
use Rattle.std.proofs.Common.{◌≡◌, ℕ, ◌+◌, ◌*◌, ◌/◌, ◌%◌, ◌<◌, ◌≤◌, true, false, List, [], ◌∷◌, length, Option, Some, None}
use Rattle.std.proofs.Common.{Result, Ok, Err, refl, sym, ap, ◌∙◌, arith, inl, inr}
use Rattle.std.specs.Prelude.{MatchResult, MatchOption, ◌==◌, ◌&&◌}
use Rattle.std.specs.Option.{option_map}
use Rattle.std.specs.Char.{is_ascii_hexdigit, digit_value}
use Rattle.std.proofs.lemmas.Bool.{cases_Bool, cases_lt, lt-ltb, le-ltb, lt-leb, le-leb, eq-eqb, eqb-true, false≢true}
use Rattle.data_types.specs.promise.FieldText.{hex_bytes}
use Rattle.hex.specs.Hex.{decode_pairs, decode_sized, ◌>>=◌, hex_digit_value}
use Rattle.hex.specs.declared.error.FromHexError.{FromHexError}

-- ---- one digit, by its range
DigitIs : ℕ → Type 0
DigitIs c = MatchOption (hex_digit_value c) (is_ascii_hexdigit c ≡ false) (λ v. (is_ascii_hexdigit c ≡ true) × (digit_value c ≡ v))

below_digits : (c : ℕ) → c < 48 → DigitIs c
unfolding DigitIs
below_digits c high = rw (lt-leb 65 c (omega arith), lt-leb 97 c (omega arith), lt-leb 48 c (omega arith)) refl

is_digit : (c : ℕ) → 48 ≤ c → c ≤ 57 → DigitIs c
unfolding DigitIs
is_digit c low high =
    rw (lt-leb 65 c (omega arith), lt-leb 97 c (omega arith), le-leb 48 c low, le-leb c 57 high) (refl, rw (le-ltb c 48 low, lt-ltb c 58 (omega arith)) refl)

between_digits : (c : ℕ) → 57 < c → c < 65 → DigitIs c
unfolding DigitIs
between_digits c low high = rw (lt-leb 65 c (omega arith), lt-leb 97 c (omega arith), lt-leb c 57 low, le-leb 48 c (omega arith)) refl

is_upper : (c : ℕ) → 65 ≤ c → c ≤ 70 → DigitIs c
unfolding DigitIs
is_upper c low high =
    rw (le-leb 65 c low, le-leb c 70 high, lt-leb c 57 (omega arith), le-leb 48 c (omega arith))
    (refl, rw (le-ltb c 48 (omega arith), le-ltb c 58 (omega arith), le-ltb c 65 low, lt-ltb c 91 (omega arith)) refl)

between_letters : (c : ℕ) → 70 < c → c < 97 → DigitIs c
unfolding DigitIs
between_letters c low high =
    rw (le-leb 65 c (omega arith), lt-leb c 70 low, lt-leb 97 c high, le-leb 48 c (omega arith), lt-leb c 57 (omega arith)) refl

is_lower : (c : ℕ) → 97 ≤ c → c ≤ 102 → DigitIs c
unfolding DigitIs
is_lower c low high =
    rw (le-leb 65 c (omega arith), lt-leb c 70 (omega arith), le-leb 97 c low, le-leb c 102 high, le-leb 48 c (omega arith), lt-leb c 57 (omega arith)) (
      refl,
      rw (
        le-ltb c 48 (omega arith),
        le-ltb c 58 (omega arith),
        le-ltb c 65 (omega arith),
        le-ltb c 91 (omega arith),
        le-ltb c 97 low,
        lt-ltb c 123 (omega arith),
      ) refl,
    )

above_letters : (c : ℕ) → 102 < c → DigitIs c
unfolding DigitIs
above_letters c low =
    rw (le-leb 65 c (omega arith), lt-leb c 70 (omega arith), le-leb 97 c (omega arith), lt-leb c 102 low, le-leb 48 c (omega arith), lt-leb c 57 (omega arith))
    refl

digit_cases : (c : ℕ) → DigitIs c
digit_cases c = elim (cases_lt c 48) [
  | inl low ↦ below_digits c low
  | inr from_0 ↦ elim (cases_lt c 58) [
    | inl digit ↦ is_digit c from_0 (omega (arith, digit))
    | inr past_9 ↦ elim (cases_lt c 65) [
      | inl other ↦ between_digits c (omega (arith, past_9)) other
      | inr from_A ↦ elim (cases_lt c 71) [
        | inl upper ↦ is_upper c from_A (omega (arith, upper))
        | inr past_F ↦ elim (cases_lt c 97) [
          | inl other ↦ between_letters c (omega (arith, past_F)) other
          | inr from_a ↦ elim (cases_lt c 103) [
            | inl lower ↦ is_lower c from_a (omega (arith, lower))
            | inr past_f ↦ above_letters c (omega (arith, past_f))
          ]
        ]
      ]
    ]
  ]
]

-- ---- pairs of digits
-- the bytes that are decoded are those that are read
abbrev DecodesAs : Result (List ℕ) FromHexError → Option (List ℕ) → Type 0
DecodesAs decoded bytes = MatchResult decoded (λ bs. bytes ≡ Some bs) (λ e. bytes ≡ None)

behind_byte : (v : ℕ) (decoded : Result (List ℕ) FromHexError) (bytes : Option (List ℕ)) → DecodesAs decoded bytes
    → DecodesAs (decoded >>= (λ bs. Ok (v ∷ bs))) (option_map (λ bs. v ∷ bs) bytes)
behind_byte v (Ok bs) bytes e = ap (option_map (λ bs. v ∷ bs)) e
behind_byte v (Err e) bytes none = ap (option_map (λ bs. v ∷ bs)) none

pair_is : (i high low : ℕ) (rest : List ℕ) (h l : Option ℕ) → hex_digit_value high ≡ h → hex_digit_value low ≡ l
    → MatchOption h (is_ascii_hexdigit high ≡ false) (λ v. (is_ascii_hexdigit high ≡ true) × (digit_value high ≡ v))
    → MatchOption l (is_ascii_hexdigit low ≡ false) (λ v. (is_ascii_hexdigit low ≡ true) × (digit_value low ≡ v))
    → DecodesAs (decode_pairs (i + 2) rest) (hex_bytes rest) → DecodesAs (decode_pairs i (high ∷ low ∷ rest)) (hex_bytes (high ∷ low ∷ rest))
unfolding decode_pairs
pair_is i high low rest None l eh el ih il more = rw (eh, ih) refl
pair_is i high low rest (Some h) None eh el ih il more = rw (eh, el, ih.0, il) refl
pair_is i high low rest (Some h) (Some l) eh el ih il more =
    let first : 0 * 16 + h ≡ h = omega arith in
    rw (eh, el, ih.0, il.0, ih.1, il.1, first) (behind_byte (h * 16 + l) (decode_pairs (i + 2) rest) (hex_bytes rest) more)

pub decoded_is : (i : ℕ) (text : List ℕ) → DecodesAs (decode_pairs i text) (hex_bytes text)
unfolding decode_pairs DigitIs
decoded_is i [] = refl
decoded_is i (digit ∷ []) = refl
decoded_is i (high ∷ low ∷ rest) =
    pair_is i high low rest (hex_digit_value high) (hex_digit_value low) refl refl (digit_cases high) (digit_cases low) (decoded_is (i + 2) rest)

odd_text : (text : List ℕ) → (length text % 2 == 1) ≡ true → hex_bytes text ≡ None
odd_text [] odd = absurd (false≢true odd)
odd_text (digit ∷ []) odd = refl
odd_text (high ∷ low ∷ rest) odd =
    let is : length (high ∷ low ∷ rest) % 2 ≡ 1 = eqb-true (length (high ∷ low ∷ rest) % 2) 1 odd in
    let less : (length rest % 2 == 1) ≡ true = eq-eqb (length rest % 2) 1 (omega (arith, is)) in
    elim (cases_Bool (is_ascii_hexdigit high && is_ascii_hexdigit low)) [
      | inl digits ↦ rw (digits, odd_text rest less) refl
      | inr other ↦ rw other refl
    ]

pub sized_is : (text : List ℕ) (size : ℕ) → size ≡ length text / 2 → DecodesAs (decode_sized text size) (hex_bytes text)
sized_is text size e = elim (cases_Bool (length text % 2 == 1)) [
  | inl odd ↦ rw odd (odd_text text odd)
  | inr even ↦ rw (even, eq-eqb (length text / 2) size (sym e)) (decoded_is 0 text)
]

pub decoded_ok : (decoded : Result (List ℕ) FromHexError) (bytes : Option (List ℕ)) (out : List ℕ) (result : Result (Unit {0}) FromHexError) → result ≡ Ok tt
    → DecodesAs decoded bytes
    → MatchResult decoded (λ bs. (result ≡ Ok tt) × (out ≡ bs)) (λ e. result ≡ Err e) → bytes ≡ Some out
decoded_ok (Ok bs) bytes out result ok same told = same ∙ ap (λ (xs : List ℕ). Some xs) (sym told.1)
decoded_ok (Err e) bytes out result ok same told = let clash : ◌≡◌ {A = Result (Unit {0}) FromHexError} (Ok tt) (Err e) = sym ok ∙ told in absurd cc

pub decoded_err : (decoded : Result (List ℕ) FromHexError) (bytes : Option (List ℕ)) (out : List ℕ) (result : Result (Unit {0}) FromHexError)
    (fault : FromHexError) → result ≡ Err fault → DecodesAs decoded bytes
    → MatchResult decoded (λ bs. (result ≡ Ok tt) × (out ≡ bs)) (λ e. result ≡ Err e) → bytes ≡ None
decoded_err (Ok bs) bytes out result fault err same told =
    let clash : ◌≡◌ {A = Result (Unit {0}) FromHexError} (Ok tt) (Err fault) = sym told.0 ∙ err in absurd cc
decoded_err (Err e) bytes out result fault err same told = same
