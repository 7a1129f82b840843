-- What `parse` makes of a text that begins as a number does.
use Rattle.std.proofs.Common.{◌≡◌, ◌∙◌, ◌≢◌, ◌≤◌, ◌<◌, ◌&&◌, ◌^◌, ap, subst, refl, arith, ℕ, Bool, true, false, cond, nat_le, List, [], ◌∷◌}
use Rattle.std.proofs.Common.{length, Some, None, Result, Ok, Err}
use Rattle.std.specs.Char.{is_ascii_digit}
use Rattle.std.specs.List.{slice_index}
use Rattle.std.specs.Result.{OkIff}
use Rattle.std.specs.Str.{all_ascii_digits}
use Rattle.std.specs.Str.Parse.{ParsesUnsigned, digits_value}
use Rattle.std.proofs.lemmas.Bool.{and_parts, le-leb, leb-true}
use Rattle.std.proofs.lemmas.Str.Parse.{IsNumeralModel, numerals_by_value, parse_plain, tells_all_ascii_digits}
use Rattle.tree_check.specs.promise.Numbers.{begins_number, number_between}

some : (text : List ℕ) → begins_number text ≡ true → 0 < length text
some [] e = cc
some (c ∷ cs) e = omega arith

own : IsNumeralModel (λ ds. all_ascii_digits ds ≡ true) (digits_value 10)
own = numerals_by_value (λ ds. all_ascii_digits ds ≡ true) tells_all_ascii_digits

no_plus : (text : List ℕ) → begins_number text ≡ true → slice_index text 0 ≢ 43
no_plus [] e = cc
no_plus (c ∷ cs) e =
    let front = and_parts (is_ascii_digit c) _ e in
    let digit = and_parts (nat_le 48 c) (nat_le c 57) front.0 in
    λ is. absurd (omega (arith, leb-true 48 c digit.0, is))

none_of : (v : ℕ) (a b c d : Bool) → (b ≡ true → d ≡ true → ⊥) → None ≡ cond ((a && b) && (c && d)) (Some v) None
none_of v false b c d never = refl
none_of v true false c d never = refl
none_of v true true false d never = refl
none_of v true true true false never = refl
none_of v true true true true never = absurd (never refl refl)

module _ (text : List ℕ) (least most : ℕ) (begins : begins_number text ≡ true) {E : Type 0} (r : Result ℕ E) (parses : ParsesUnsigned 32 10 text r) where
  abbrev value : ℕ
  value = digits_value 10 text

  abbrev Digits : Type 0
  Digits = (all_ascii_digits text ≡ true) × (0 < length text) × (value < 2 ^ 32)

  plain : OkIff r Digits value
  plain = parse_plain own 32 text r parses (no_plus text begins)

  pub between : (n : ℕ) → r ≡ Ok n → least ≤ n → n ≤ most → Some n ≡ number_between least most text
  between n ok low high =
      let got : Digits × (n ≡ value) = subst (λ (x : Result ℕ E). OkIff x Digits value) ok plain in
      ap Some got.1 ∙ rw (begins, got.0.0, le-leb least value (omega (arith, low, got.1)), le-leb value most (omega (arith, high, got.1))) refl

  pub no_number : (e : E) → r ≡ Err e → most < 2 ^ 32 → None ≡ number_between least most text
  no_number e err fits =
      let never : Digits → ⊥ = subst (λ (x : Result ℕ E). OkIff x Digits value) err plain in
      none_of value (begins_number text) (all_ascii_digits text) (nat_le least value) (nat_le value most)
      (λ digits small. never (digits, some text begins, omega (arith, fits, leb-true value most small)))
