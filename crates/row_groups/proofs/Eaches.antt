-- The values of a function at the numbers from one on.
use Rattle.std.proofs.Common.{◌≡◌, ◌∙◌, ◌+◌, ◌<◌, ◌++◌, ℕ, zero, suc, List, [], ◌∷◌, get_or, ap, arith}
use Rattle.layout_rules.specs.promise.Values.{each}

pub get_or-each : {X : Type 0} → (f : ℕ → X) (a n i : ℕ) (d : X) → i < n → get_or (each f a n) i d ≡ f (a + i)
get_or-each f a zero i d h = absurd (omega arith)
get_or-each f a (suc n) zero d h = let e : a ≡ a + 0 = omega arith in ap f e
get_or-each f a (suc n) (suc i) d h =
    let e : suc a + i ≡ a + suc i = omega arith in
    get_or-each f (suc a) n i d (omega arith) ∙ ap f e

pub each-next : {X : Type 0} → (f : ℕ → X) (a n : ℕ) → each f a (n + 1) ≡ each f a n ++ f (a + n) ∷ []
each-next f a zero = let start : a ≡ a + 0 = omega arith in ap (λ i. f i ∷ []) start
each-next f a (suc n) =
    let e : suc n + 1 ≡ suc (n + 1) = omega arith in
    let place : suc a + n ≡ a + suc n = omega arith in
    ap (each f a) e ∙ ap (λ (xs : List _). f a ∷ xs) (each-next f (suc a) n ∙ ap (λ i. each f (suc a) n ++ f i ∷ []) place)
