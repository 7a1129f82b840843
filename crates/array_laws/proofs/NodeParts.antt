-- The faults of a node's rules.
use Rattle.std.proofs.Common.{◌≡◌, ◌∙◌, ℕ, zero, suc, ◌+◌, ◌<◌, ◌≤◌, ℤ, Bool, true, false, Option, None, refl, ap, arith}
use Rattle.std.specs.Option.{option_or}
use Rattle.layout_rules.specs.declared.rule.Numbers.{Numbers}
use Rattle.layout_rules.specs.promise.Rules.{fault_if, first_below}
use Rattle.layout_rules.proofs.Firsts.{first_below-none_at}

pub both-none : {X : Type 0} → (a b : Option X) → a ≡ None → b ≡ None → option_or a b ≡ None
both-none a b e f = ap (λ o. option_or o b) e ∙ f

pub no-fault : (test : Bool) (place : ℕ) (left right : ℤ) → test ≡ false → fault_if test place left right ≡ None
no-fault test place left right e = ap (λ t. fault_if t place left right) e

pub fault-false : (test : Bool) (place : ℕ) (left right : ℤ) → fault_if test place left right ≡ None → test ≡ false
fault-false true place left right e = absurd (cc)
fault-false false place left right e = refl

-- a fault that isn't there stays away with other numbers
pub other-numbers : (test : Bool) (p q : ℕ) (l r l' r' : ℤ) → fault_if test p l r ≡ None → fault_if test q l' r' ≡ None
other-numbers test p q l r l' r' e = no-fault test q l' r' (fault-false test p l r e)

pub below-none : (f : ℕ → Option Numbers) (n : ℕ) → ((i : ℕ) → i < n → f i ≡ None) → first_below f n ≡ None
below-none f zero each = refl
below-none f (suc n) each = both-none (first_below f n) (f n) (below-none f n (λ i lt. each i (omega (arith, lt)))) (each n (omega arith))

-- what holds of each number below one holds again
pub below-again : (f g : ℕ → Option Numbers) (n : ℕ) → ((i : ℕ) → i < n → f i ≡ None → g i ≡ None) → first_below f n ≡ None → first_below g n ≡ None
below-again f g n each e = below-none g n (λ i lt. each i lt (first_below-none_at f n i lt e))

-- what holds of each number below one holds of a part of them
pub below-part : (f g : ℕ → Option Numbers) (n off len : ℕ) → off + len ≤ n → ((i : ℕ) → i < len → f (off + i) ≡ None → g i ≡ None)
    → first_below f n ≡ None → first_below g len ≡ None
below-part f g n off len le each e = below-none g len (λ i lt. each i lt (first_below-none_at f n (off + i) (omega (arith, lt, le)) e))
