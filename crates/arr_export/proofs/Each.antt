-- The values of a function from a number on, as a list.
use Rattle.std.proofs.Common.{◌≡◌, ◌∙◌, ℕ, zero, suc, ◌+◌, ◌<◌, List, [], ◌∷◌, length, get_or, refl, sym, ap, arith}
use Rattle.layout_rules.specs.promise.Values.{each}

-- they are those of a list
pub each-is : {X : Type 0} → (f : ℕ → X) (xs : List X) (from : ℕ) (d : X) → ((i : ℕ) → i < length xs → f (from + i) ≡ get_or xs i d)
    → each f from (length xs) ≡ xs
each-is f [] from d same = refl
each-is f (x ∷ xs) from d same =
    let start : from + 0 ≡ from = omega arith in
    let head : f from ≡ x = ap f (sym start) ∙ same 0 (omega arith) in
    let tail = each-is f xs (suc from) d (λ i lt.
    let place : suc from + i ≡ from + suc i = omega arith in
    ap f place ∙ same (suc i) (omega arith)) in
    ap (λ y. y ∷ each f (suc from) (length xs)) head ∙ ap (λ ys. x ∷ ys) tail

pub each-same : {X : Type 0} → (f g : ℕ → X) (from n : ℕ) → ((i : ℕ) → i < n → f (from + i) ≡ g (from + i)) → each f from n ≡ each g from n
each-same f g from zero same = refl
each-same f g from (suc n) same =
    let start : from + 0 ≡ from = omega arith in
    let head : f from ≡ g from = ap f (sym start) ∙ same 0 (omega arith) ∙ ap g start in
    let tail = each-same f g (suc from) n (λ i lt.
    let place : suc from + i ≡ from + suc i = omega arith in
    ap f place ∙ same (suc i) (omega arith) ∙ ap g (sym place)) in
    ap (λ x. x ∷ each f (suc from) n) head ∙ ap (λ xs. g from ∷ xs) tail

pub value-there : {X : Type 0} → (f : ℕ → X) (from n i : ℕ) (d : X) → i < n → get_or (each f from n) i d ≡ f (from + i)
value-there f from zero i d lt = absurd (omega arith)
value-there f from (suc n) zero d lt = let start : from ≡ from + 0 = omega arith in ap f start
value-there f from (suc n) (suc i) d lt =
    let place : suc from + i ≡ from + suc i = omega arith in
    value-there f (suc from) n i d (omega arith) ∙ ap f place

pub length-each : {X : Type 0} → (f : ℕ → X) (from n : ℕ) → length (each f from n) ≡ n
length-each f from zero = refl
length-each f from (suc n) = ap suc (length-each f (suc from) n)
