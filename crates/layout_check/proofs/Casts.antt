-- A number with a sign, as it is read, tested and cast.
use Rattle.std.proofs.Common.{◌≡◌, ℕ, ◌+◌, ◌<◌, ℤ, pos, negsuc, Bool, true, false, nat_abs, w64, Fits, FitsSigned, to_z, of_z, T, refl, subst, sym, ap, ◌∙◌}
use Rattle.std.proofs.Common.{arith}
use mir.Syntax.{w128}
use Rattle.std.specs.Prelude.{◌≤ℤ◌}
use Rattle.std.specs.Int.Signed.{mag, lt_z, le_z, non_neg, yes_non_neg}
use Rattle.std.proofs.Math.Facts.{to_z-of_z, Fits-nat_abs}
use Rattle.std.proofs.lemmas.Int.{ints}
use Rattle.layout_rules.specs.promise.Layout.{natural}
use Rattle.layout_rules.specs.promise.Views.{is_long}
use Rattle.layout_rules.specs.promise.Rules.{is_outside}

-- a number of 8 bytes reads as it was written, and one of 16
pub same : (z : ℤ) → mag z < 9223372036854775808 → to_z w64 (of_z w64 z) ≡ z
same z f = to_z-of_z (let fits : FitsSigned w64 z = record { sfits = f } in fits)

pub same_wide : (z : ℤ) → mag z < 170141183460469231731687303715884105728 → to_z w128 (of_z w128 z) ≡ z
same_wide z f = to_z-of_z (let fits : FitsSigned w128 z = record { sfits = f } in fits)

-- ---- tests

test_below : (z : ℤ) → lt_z z (pos 0) ≡ true → ¬ (pos 0 ≤ℤ z)
test_below z e h = grind arith

test_from : (z : ℤ) → lt_z z (pos 0) ≡ false → pos 0 ≤ℤ z
test_from z e = grind arith

test_long : (z : ℤ) → le_z z (pos 12) ≡ false → is_long z ≡ true
test_long z e = grind arith

test_short : (z : ℤ) → le_z z (pos 12) ≡ true → is_long z ≡ false
test_short z e = grind arith

pub is_below : (z y : ℤ) → mag z < 9223372036854775808 → z ≡ y → lt_z (to_z w64 (of_z w64 z)) (pos 0) ≡ true → ¬ (pos 0 ≤ℤ y)
is_below z y f e t = test_below y (subst (λ x. lt_z x (pos 0) ≡ true) (same z f ∙ e) t)

pub is_from : (z y : ℤ) → mag z < 9223372036854775808 → z ≡ y → lt_z (to_z w64 (of_z w64 z)) (pos 0) ≡ false → pos 0 ≤ℤ y
is_from z y f e t = test_from y (subst (λ x. lt_z x (pos 0) ≡ false) (same z f ∙ e) t)

pub is_longer : (z y : ℤ) → mag z < 9223372036854775808 → z ≡ y → le_z (to_z w64 (of_z w64 z)) (pos 12) ≡ false → is_long y ≡ true
is_longer z y f e t = test_long y (subst (λ x. le_z x (pos 12) ≡ false) (same z f ∙ e) t)

pub is_longer-gt : (z y : ℤ) → mag z < 9223372036854775808 → z ≡ y → lt_z (pos 12) (to_z w64 (of_z w64 z)) ≡ true → is_long y ≡ true
is_longer-gt z y f e t = subst (λ x. is_long x ≡ true) (same z f ∙ e) t

pub is_shorter : (z y : ℤ) → mag z < 9223372036854775808 → z ≡ y → le_z (to_z w64 (of_z w64 z)) (pos 12) ≡ true → is_long y ≡ false
is_shorter z y f e t = test_short y (subst (λ x. le_z x (pos 12) ≡ true) (same z f ∙ e) t)

pub outside_is : (r b : Bool) (n m : ℕ) (z y : ℤ) → mag z < 9223372036854775808 → r ≡ is_outside (pos n) (to_z w64 (of_z w64 z)) → r ≡ b → n ≡ m → z ≡ y
    → is_outside (pos m) y ≡ b
outside_is r b n m z y f e t p q =
    subst (λ k. is_outside (pos k) y ≡ b) p (subst (λ x. is_outside (pos n) x ≡ b) (same z f ∙ q) (sym e ∙ t))

-- ---- casts of numbers that aren't below 0

absolute : (z : ℤ) → pos 0 ≤ℤ z → nat_abs z ≡ natural z
absolute (pos n) h = refl
absolute (negsuc n) h = absurd (grind arith)

absolute_below : (z : ℤ) → mag z < 9223372036854775808 → pos 0 ≤ℤ z → nat_abs z < 9223372036854775808
absolute_below (pos n) f h = f
absolute_below (negsuc n) f h = absurd (grind arith)

pub cast_is : (z y : ℤ) → mag z < 9223372036854775808 → z ≡ y → pos 0 ≤ℤ y → nat_abs (to_z w64 (of_z w64 z)) ≡ natural y
cast_is z y f e h = ap nat_abs (same z f ∙ e) ∙ absolute y h

pub cast_below : (z y : ℤ) → mag z < 9223372036854775808 → z ≡ y → pos 0 ≤ℤ y → nat_abs (to_z w64 (of_z w64 z)) < 9223372036854775808
cast_below z y f e h = subst (λ x. nat_abs x < 9223372036854775808) (sym (same z f)) (absolute_below z f (subst (λ x. pos 0 ≤ℤ x) (sym e) h))

pub cast_fits : (z y : ℤ) → mag z < 9223372036854775808 → z ≡ y → pos 0 ≤ℤ y
    → T (non_neg (to_z w64 (of_z w64 z))) × Fits w64 (nat_abs (to_z w64 (of_z w64 z)))
cast_fits z y f e h =
    let fits : FitsSigned w64 z = record { sfits = f } in
    subst (λ x. T (non_neg x) × Fits w64 (nat_abs x)) (sym (same z f)) (yes_non_neg (subst (λ x. pos 0 ≤ℤ x) (sym e) h), Fits-nat_abs tt fits)

pub sum_fits : (a b : ℕ) → a < 9223372036854775808 → b < 9223372036854775808 → Fits w64 (a + b)
sum_fits a b f g = grind arith

-- ---- casts to 16 bytes

pub widened : (a z y : ℤ) → mag a < 170141183460469231731687303715884105728 → mag z < 9223372036854775808 → a ≡ to_z w64 (of_z w64 z) → z ≡ y
    → to_z w128 (of_z w128 a) ≡ y
widened a z y f g e p = same_wide a f ∙ e ∙ same z g ∙ p

pub count_widened : (n m : ℕ) → n < 4294967296 → n ≡ m → to_z w128 n ≡ pos m
count_widened n m l e =
    let is : to_z w128 n ≡ pos n = omega (arith, ints) in
    is ∙ ap pos e

-- ---- numbers that are compared as words of 8 bytes

word_of : (z : ℤ) (k : ℕ) → mag z < 9223372036854775808 → of_z w64 z ≡ k → k < 4294967296 → natural z ≡ k
word_of (pos n) k f e l = e
word_of (negsuc n) k f e l = absurd (omega (arith, f, e, l))

pub word_is : (z y : ℤ) (k : ℕ) → mag z < 9223372036854775808 → z ≡ y → of_z w64 z ≡ k → k < 4294967296 → natural y ≡ k
word_is z y k f e w l = sym (ap natural e) ∙ word_of z k f w l

pub word_isnt : (z y : ℤ) (k : ℕ) → z ≡ y → ¬ (of_z w64 z ≡ k) → ¬ (y ≡ pos k)
word_isnt z y k e h p = h (ap (of_z w64) (e ∙ p))
