-- The numbers of a decimal, and where they end.
use Rattle.std.proofs.Common.{◌≡◌, ◌≢◌, ℕ, zero, suc, pos, neg_ℤ, ◌+◌, ◌*◌, ◌<◌, List, [], ◌∷◌, ◌++◌, length, get_or, take, drop, map, length-append}
use Rattle.std.proofs.Common.{length-drop, append_assoc, refl, sym, ap, subst, ◌∙◌, inl, inr, arith}
use Rattle.std.specs.Char.{digit_value}
use Rattle.std.specs.Str.Parse.{digits_value}
use Rattle.std.proofs.lemmas.List.{take-append-drop, append-nil, length-take, get_or-take}
use Rattle.std.proofs.lemmas.Str.{digit_value_digit}
use Rattle.std.proofs.lemmas.Str.Parse.{digit_from_value}
use Rattle.std.proofs.lemmas.Int.Digits.{digits_value_is, number_after_ge}
use Rattle.fmt_string.specs.declared.fault.FormatRule.{FormatRule}
use Rattle.fmt_string.specs.declared.fault.FormatRule.TheVariants as rules
use Rattle.fmt_string.specs.promise.FormatString.{IsNumber, IsSigned, NoNumber, NoSigned, NumberThen, StartsWith, StartsWithDigit, comma, NumbersFail}
use Rattle.fmt_string.specs.promise.FormatString.NumberPlace.{AtScale, AtWidth}
use Rattle.fmt_string.specs.Decimal.{signed_value, parts}

-- digits of which the first isn't 0 write a number above 0
pub above_zero : (digits : List ℕ) (n : ℕ) → IsNumber digits n → get_or digits 0 0 ≢ 48 → 0 < n
above_zero [] n is first = absurd (omega (arith, is.some))
above_zero (c ∷ cs) n is first =
    let d = digit_from_value c is.digits.0 in
    omega (
      arith,
      is.value,
      digits_value_is 10 (c ∷ cs),
      number_after_ge 10 (0 * 10 + digit_value c) (map digit_value cs) (omega arith),
      digit_value_digit c d,
      d,
      first,
    )

pub minus_is : (digits : List ℕ) (n : ℕ) → IsNumber digits n → 0 < n → IsSigned (45 ∷ digits) (neg_ℤ (pos n))
minus_is digits zero is some = absurd (omega (arith, some))
minus_is digits (suc n) is some = let e : suc n ≡ n + 1 = omega arith in (digits, refl, subst (λ (k : ℕ). IsNumber digits k) e is)

pub signed_minus : (text digits : List ℕ) (len : ℕ) → text ≡ 45 ∷ digits
    → NumberThen digits (take len digits) (drop len digits) (digits_value 10 (take len digits)) → get_or digits 0 0 ≢ 48
    → IsSigned (take (len + 1) text) (signed_value (take (len + 1) text))
signed_minus text digits len split then first =
    let some : 0 < len = omega (arith, then.is.some, length-take len digits) in
    let begins : get_or (take len digits) 0 0 ≢ 48 = λ h. first (sym (get_or-take len digits 0 0 some) ∙ h) in
    let e : suc len ≡ len + 1 = omega arith in
    let front : take (len + 1) text ≡ 45 ∷ take len digits = subst (λ (n : ℕ). take n text ≡ 45 ∷ take len digits) e (ap (take (suc len)) split) in
    subst (λ (t : List ℕ). IsSigned t (signed_value t)) (sym front)
    (minus_is (take len digits) (digits_value 10 (take len digits)) then.is
    (above_zero (take len digits) (digits_value 10 (take len digits)) then.is begins))

-- ---- faults

pub no_scale : (p more : List ℕ) (rule : FormatRule) (place : ℕ) → rule ≡ rules.BadNumber → place ≡ length p + 1 → IsNumber p (digits_value 10 p)
    → NoSigned more → NumbersFail (p ++ comma ++ more) rule place
no_scale p more rule place is at p_is none =
    inl (is, AtScale p, more, (digits_value 10 p, p_is), refl, none, omega (arith, at, length-append p comma))

module _ (p s : List ℕ) (p_is : IsNumber p (digits_value 10 p)) (s_is : IsSigned s (signed_value s)) where
  pub no_width : (text digits : List ℕ) (rule : FormatRule) (place : ℕ) → rule ≡ rules.BadNumber → place ≡ length p + length s + 2
      → text ≡ 44 ∷ digits → NoNumber digits → NumbersFail (p ++ comma ++ s ++ text) rule place
  no_width text digits rule place is at split none =
      inl (
        is,
        AtWidth p s,
        digits,
        ((digits_value 10 p, p_is), (signed_value s, s_is)),
        ap (λ (t : List ℕ). p ++ comma ++ s ++ t) split ∙ sym (append_assoc (p ++ comma ++ s) comma digits),
        none,
        omega (arith, at, length-append (p ++ comma ++ s) comma, length-append (p ++ comma) s, length-append p comma),
      )

  pub behind_scale : (more : List ℕ) (rule : FormatRule) (place : ℕ) → rule ≡ rules.Trailing → place ≡ length p + length s + 1
      → (StartsWithDigit more → ⊥) → (StartsWith 44 more → ⊥) → 0 < length more → NumbersFail (p ++ comma ++ s ++ more) rule place
  behind_scale more rule place is at no_digit no_comma some =
      inr (inr (inl (
        is,
        parts p s [],
        more,
        digits_value 10 p,
        signed_value s,
        128,
        record { precision_is = p_is; scale_is = s_is; width_is = inl (refl, refl) },
        ap (λ (t : List ℕ). t ++ more) (sym (append-nil (p ++ comma ++ s))),
        (no_digit, λ _. no_comma),
        some,
        omega (arith, at, length-append (p ++ comma ++ s) [], length-append (p ++ comma) s, length-append p comma),
      )))

  pub behind_width : (text digits : List ℕ) (len : ℕ) (rule : FormatRule) (place : ℕ) → rule ≡ rules.Trailing → place ≡ length p + length s + 2 + len
      → text ≡ 44 ∷ digits → NumberThen digits (take len digits) (drop len digits) (digits_value 10 (take len digits)) → len < length digits
      → NumbersFail (p ++ comma ++ s ++ text) rule place
  behind_width text digits len rule place is at split then some =
      let width : List ℕ = 44 ∷ take len digits in
      let whole : text ≡ width ++ drop len digits = split ∙ ap (λ (t : List ℕ). 44 ∷ t) then.split in
      inr (inr (inl (
        is,
        parts p s width,
        drop len digits,
        digits_value 10 p,
        signed_value s,
        digits_value 10 (take len digits),
        record { precision_is = p_is; scale_is = s_is; width_is = inr (take len digits, refl, then.is) },
        ap (λ (t : List ℕ). p ++ comma ++ s ++ t) whole ∙ sym (append_assoc (p ++ comma ++ s) width (drop len digits)),
        (then.ends, λ e. absurd cc),
        omega (arith, length-drop len digits, some),
        omega (arith, at, length-append (p ++ comma ++ s) width, length-append (p ++ comma) s, length-append p comma, length-take len digits, some),
      )))

-- ---- texts in pieces

pub scale_and_more : (front text scale more : List ℕ) (len : ℕ) → scale ≡ take len text → more ≡ drop len text → front ++ scale ++ more ≡ front ++ text
scale_and_more front text scale more len a b =
    append_assoc front scale more ∙ ap (λ (t : List ℕ). front ++ t) (rw (a, b) (take-append-drop len text))

pub precision_and_more : (text precision more rest : List ℕ) (len : ℕ) → precision ≡ take len text → more ≡ drop len text → more ≡ 44 ∷ rest
    → precision ++ comma ++ rest ≡ text
precision_and_more text precision more rest len a b c =
    append_assoc precision comma rest ∙ ap (λ (t : List ℕ). precision ++ t) (sym c ∙ b) ∙ ap (λ (t : List ℕ). t ++ drop len text) a ∙ take-append-drop len text
