-- Offsets that rise, from any place of a window to one behind it.
use Rattle.std.proofs.Common.{◌≡◌, ℕ, zero, suc, ◌+◌, ◌-◌, ◌<◌, ◌≤◌, ◌==◌, Bool, true, false, ℤ, pos, negsuc, Option, None, refl, subst, true≢false, arith}
use Rattle.std.specs.Prelude.{if◌then◌else◌, int_lt, ◌≤ℤ◌}
use Rattle.std.specs.Int.Signed.{≤ℤ_refl}
use Rattle.raw_array.specs.promise.Members.{ArrayMembers}
use Rattle.layout_rules.specs.declared.rule.Numbers.{Numbers}
use Rattle.layout_rules.specs.promise.Layout.{items, first, end, natural, offset}
use Rattle.layout_rules.specs.promise.Rules.{fault_if, fault, is_negative, first_below, offsets_fall}
use Rattle.layout_rules.specs.Rules.{offset_falls}
use Rattle.layout_rules.proofs.Firsts.{first_below-none_at}
use Rattle.layout_rules.proofs.TextData.{natural-rise, not_zero}

pub trans-≤ℤ : (a b c : ℤ) → a ≤ℤ b → b ≤ℤ c → a ≤ℤ c
trans-≤ℤ a b c h k = grind arith

pub not_negative : (z : ℤ) → is_negative z ≡ false → pos 0 ≤ℤ z
not_negative (pos n) e = grind arith
not_negative (negsuc n) e = absurd (true≢false e)

pub never-negative : (z : ℤ) → pos 0 ≤ℤ z → is_negative z ≡ false
never-negative (pos n) e = refl
never-negative (negsuc n) e = absurd (grind arith)

pub no_fall : (i : ℕ) (here next : ℤ) → fault_if (int_lt next here) i here next ≡ None → here ≤ℤ next
no_fall i here next e = grind arith

parts : (none : Bool) (z : ℤ) (rest : Option Numbers) → none ≡ false
    → (if none then None else if is_negative z then fault 0 (pos 0) z else rest) ≡ None
    → (is_negative z ≡ false) × (rest ≡ None)
parts true z rest h e = absurd (true≢false h)
parts false (pos m) rest h e = (refl, e)
parts false (negsuc m) rest h e = grind arith

rise : (f : ℕ → ℤ) (a n : ℕ) → ((i : ℕ) → i < n → f (a + i) ≤ℤ f (a + i + 1)) → (i k : ℕ) → i + k ≤ n → f (a + i) ≤ℤ f (a + (i + k))
rise f a n h i zero l =
    let same : a + i ≡ a + (i + 0) = omega arith in
    subst (λ p. f (a + i) ≤ℤ f p) same (≤ℤ_refl (f (a + i)))
rise f a n h i (suc k) l =
    let next : a + (i + k) + 1 ≡ a + (i + suc k) = omega arith in
    trans-≤ℤ (f (a + i)) (f (a + (i + k))) (f (a + (i + suc k)))
    (rise f a n h i k (omega (arith, l)))
    (subst (λ p. f (a + (i + k)) ≤ℤ f p) next (h (i + k) (omega (arith, l))))

-- the offsets of a window that doesn't end at place 0
pub record Rises (wide : Bool) (m : ArrayMembers) : Type 0 where
  pub from : (i : ℕ) → i ≤ items m → pos 0 ≤ℤ offset wide m (first m + i)
  pub rise : (i j : ℕ) → i ≤ j → j ≤ items m → offset wide m (first m + i) ≤ℤ offset wide m (first m + j)

pub rises : (wide : Bool) (m : ArrayMembers) → offsets_fall wide m ≡ None → 0 < end m → Rises wide m
rises wide m e h =
    let p = parts (end m == 0) (offset wide m (first m)) (first_below (offset_falls wide m) (items m)) (not_zero (end m) h) e in
    let step : (i : ℕ) → i < items m → offset wide m (first m + i) ≤ℤ offset wide m (first m + i + 1) =
    λ i lt. no_fall i (offset wide m (first m + i)) (offset wide m (first m + i + 1)) (first_below-none_at (offset_falls wide m) (items m) i lt p.1) in
    let start : first m ≡ first m + 0 = omega arith in
    let zeroth : pos 0 ≤ℤ offset wide m (first m + 0) = subst (λ k. pos 0 ≤ℤ offset wide m k) start (not_negative (offset wide m (first m)) p.0) in
    record {
      from = λ i le.
          let place : first m + (0 + i) ≡ first m + i = omega arith in
          trans-≤ℤ (pos 0) (offset wide m (first m + 0)) (offset wide m (first m + i)) zeroth
          (subst (λ k. offset wide m (first m + 0) ≤ℤ offset wide m k) place (rise (offset wide m) (first m) (items m) step 0 i (omega (arith, le))));
      rise = λ i j ij le.
          let place : first m + (i + (j - i)) ≡ first m + j = omega (arith, ij) in
          subst (λ k. offset wide m (first m + i) ≤ℤ offset wide m k) place (rise (offset wide m) (first m) (items m) step i (j - i) (omega (arith, ij, le)));
    }

pub natural-rises : (wide : Bool) (m : ArrayMembers) → Rises wide m → (i j : ℕ) → i ≤ j → j ≤ items m
    → natural (offset wide m (first m + i)) ≤ natural (offset wide m (first m + j))
natural-rises wide m r i j ij le =
    natural-rise (offset wide m (first m + i)) (offset wide m (first m + j)) (r.from i (omega (arith, ij, le))) (r.rise i j ij le)

-- what is said of the offsets item by item
pub falls-step : (wide : Bool) (m : ArrayMembers) → offsets_fall wide m ≡ None → 0 < end m → first_below (offset_falls wide m) (items m) ≡ None
falls-step wide m e h = (parts (end m == 0) (offset wide m (first m)) (first_below (offset_falls wide m) (items m)) (not_zero (end m) h) e).1
