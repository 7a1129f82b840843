-- The text of a number, and what is read of a text.
use Rattle.std.proofs.Common.{◌≡◌, ℕ, suc, ◌^◌, ◌<◌, true, false, List, [], ◌∷◌, length, Some, None, refl, sym, ◌∙◌, arith, subst}
use Rattle.std.proofs.Common.{w64, FitsSigned, inl, inr}
use Rattle.std.specs.Prelude.{ℤ, pos, negsuc, ◌==◌, ◌&&◌}
use Rattle.std.specs.Char.{digit_value}
use Rattle.std.specs.Str.{bytes_eq}
use Rattle.std.specs.Str.Parse.{AllDigits, IsNumeral, signed_digits_value, starts_with_minus, without_leading_sign}
use Rattle.std.specs.Fmt.{decimal, signed_decimal}
use Rattle.std.proofs.lemmas.Bool.{cases_Bool, and_parts, ltb-true, lt-ltb, ne_eqb}
use Rattle.std.proofs.lemmas.Fmt.{decimal_is_IsNumeral}
use Rattle.std.proofs.lemmas.Slice.Eq.{bytes_eq-Decides}
use Rattle.data_types.specs.promise.FieldText.{in_range}
use Rattle.tree_text.specs.promise.Standing.{read_number}

record NoSign (text : List ℕ) : Type 0 where
  same : without_leading_sign text ≡ text
  plus : starts_with_minus text ≡ false

no_sign : (text : List ℕ) → 0 < length text → AllDigits 10 text → NoSign text
no_sign [] some digits = absurd (omega (arith, some))
no_sign (c ∷ cs) some digits =
    let minus : (c == 45) ≡ false = ne_eqb c 45 (λ e. let h : digit_value 45 < 10 = subst (λ (x : ℕ). digit_value x < 10) e digits.0 in omega (arith, h)) in
    let plus : (c == 43) ≡ false = ne_eqb c 43 (λ e. let h : digit_value 43 < 10 = subst (λ (x : ℕ). digit_value x < 10) e digits.0 in omega (arith, h)) in
    record { same = rw (minus, plus) refl; plus = minus }

-- the text of a number that is in range
pub record Written (z : ℤ) : Type 0 where
  pub numeral : IsNumeral 10 (without_leading_sign (signed_decimal z))
  pub value : signed_digits_value 10 (signed_decimal z) ≡ z
  pub fits : FitsSigned w64 z

pub written : (z : ℤ) → in_range 64 true z ≡ true → Written z
written (pos n) of =
    let small : n < 2 ^ 63 = ltb-true n (2 ^ 63) of in
    let std = decimal_is_IsNumeral n (omega (arith, small)) in
    let text = no_sign (decimal n) std.0.0 std.0.1 in
    record { numeral = rw text.same std.0; value = rw (text.same, text.plus, std.1) refl; fits = omega (arith, small) }
written (negsuc n) of =
    let small : n < 2 ^ 63 = ltb-true n (2 ^ 63) of in
    let std = decimal_is_IsNumeral (suc n) (omega (arith, small)) in
    record { numeral = std.0; value = rw std.1 refl; fits = omega (arith, small) }

pub in_range_is : (z : ℤ) → FitsSigned w64 z → in_range 64 true z ≡ true
in_range_is (pos n) fits = lt-ltb n (2 ^ 63) (omega (arith, fits))
in_range_is (negsuc n) fits = lt-ltb n (2 ^ 63) (omega (arith, fits))

pub none_read : (text : List ℕ) → ((z : ℤ) → Written z → text ≡ signed_decimal z → ⊥) → read_number text ≡ None
none_read text none =
    let z = signed_digits_value 10 text in
    elim (cases_Bool (in_range 64 true z && bytes_eq (signed_decimal z) text)) [
      | inl both ↦
          let parts = and_parts _ _ both in
          absurd (none z (written z parts.0) (sym ((bytes_eq-Decides (signed_decimal z) text).0 parts.1)))
      | inr other ↦ rw other refl
    ]

-- a number that is read is in range, and the text is its own
pub record ReadAs (text : List ℕ) (z : ℤ) : Type 0 where
  pub spelled : text ≡ signed_decimal z
  pub range : in_range 64 true z ≡ true

pub number_read : (text : List ℕ) (z : ℤ) → read_number text ≡ Some z → ReadAs text z
number_read text z found =
    let w = signed_digits_value 10 text in
    elim (cases_Bool (in_range 64 true w && bytes_eq (signed_decimal w) text)) [
      | inl both ↦
          let parts : (in_range 64 true w ≡ true) × (bytes_eq (signed_decimal w) text ≡ true) = and_parts _ _ both in
          let is : read_number text ≡ Some w = rw both refl in
          let same : w ≡ z = search (sym is ∙ found) in
          rw (← same) (record { spelled = sym ((bytes_eq-Decides (signed_decimal w) text).0 parts.1); range = parts.0 })
      | inr other ↦
          let none : read_number text ≡ None = rw other refl in
          let clash : None ≡ Some z = sym none ∙ found in absurd cc
    ]

-- and a number's own text is read as the number
pub number_back : (z : ℤ) → in_range 64 true z ≡ true → read_number (signed_decimal z) ≡ Some z
number_back z of =
    let w = written z of in
    let same : bytes_eq (signed_decimal z) (signed_decimal z) ≡ true = (bytes_eq-Decides (signed_decimal z) (signed_decimal z)).1 refl in
    rw (w.value, of, same) refl
