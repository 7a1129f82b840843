-- The first fault of the numbers below one.
use Rattle.std.proofs.Common.{◌≡◌, ℕ, zero, suc, ◌+◌, ◌-◌, ◌<◌, Option, None, Some, refl, ap, ◌∙◌, sym, arith}
use Rattle.std.specs.Option.{option_or}
use Rattle.layout_rules.specs.declared.rule.Numbers.{Numbers}
use Rattle.layout_rules.specs.promise.Rules.{first_below}

left-none : {X : Type 0} → (a b : Option X) → option_or a b ≡ None → a ≡ None
left-none None b e = refl
left-none (Some x) b e = e

right-none : {X : Type 0} → (a b : Option X) → option_or a b ≡ None → b ≡ None
right-none a b e = sym (ap (λ o. option_or o b) (left-none a b e)) ∙ e

-- one more number
pub first_below-none : (f : ℕ → Option Numbers) (n : ℕ) → first_below f n ≡ None → f n ≡ None → first_below f (n + 1) ≡ None
first_below-none f n e g =
    let same : n + 1 ≡ suc n = omega arith in
    ap (first_below f) same ∙ ap (λ a. option_or a (f n)) e ∙ g

-- the first one stays the first
first_below-later : (f : ℕ → Option Numbers) (k i : ℕ) (x : Numbers) → first_below f i ≡ None → f i ≡ Some x → first_below f (k + suc i) ≡ Some x
first_below-later f zero i x e g =
    let same : 0 + suc i ≡ suc i = omega arith in
    ap (first_below f) same ∙ ap (λ a. option_or a (f i)) e ∙ g
first_below-later f (suc k) i x e g =
    let same : suc k + suc i ≡ suc (k + suc i) = omega arith in
    ap (first_below f) same ∙ ap (λ a. option_or a (f (k + suc i))) (first_below-later f k i x e g)

pub first_below-some : (f : ℕ → Option Numbers) (n i : ℕ) (x : Numbers) → i < n → first_below f i ≡ None → f i ≡ Some x → first_below f n ≡ Some x
first_below-some f n i x h e g =
    let same : n ≡ (n - suc i) + suc i = omega (arith, h) in
    ap (first_below f) same ∙ first_below-later f (n - suc i) i x e g

-- no fault below a number, no fault at each
none-at_later : (f : ℕ → Option Numbers) (k i : ℕ) → first_below f (k + suc i) ≡ None → f i ≡ None
none-at_later f zero i e =
    let same : suc i ≡ 0 + suc i = omega arith in
    right-none (first_below f i) (f i) (ap (first_below f) same ∙ e)
none-at_later f (suc k) i e =
    let same : suc (k + suc i) ≡ suc k + suc i = omega arith in
    none-at_later f k i (left-none (first_below f (k + suc i)) (f (k + suc i)) (ap (first_below f) same ∙ e))

pub first_below-none_at : (f : ℕ → Option Numbers) (n i : ℕ) → i < n → first_below f n ≡ None → f i ≡ None
first_below-none_at f n i h e =
    let same : (n - suc i) + suc i ≡ n = omega (arith, h) in
    none-at_later f (n - suc i) i (ap (first_below f) same ∙ e)

pub ruleset one_more = (first_below-none)
