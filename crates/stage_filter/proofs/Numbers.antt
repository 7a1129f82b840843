-- The numbers of the items that pass, and the rows of these numbers.
use Rattle.std.proofs.Common.{◌≡◌, ◌∙◌, ◌≤◌, ◌<◌, ◌+◌, ◌-◌, ◌++◌, ℕ, zero, suc, Bool, true, false, List, [], ◌∷◌, length, map, All, refl, sym, ap, arith}
use Rattle.std.specs.Prelude.{if◌then◌else◌}
use Rattle.std.specs.List.{filter}
use Rattle.std.proofs.lemmas.List.{append-nil}
use Rattle.std.proofs.lemmas.List.Elements.{All-filter, filter-append}
use Rattle.layout_rules.specs.promise.Values.{each}
use Rattle.stage_filter.specs.Kept.{numbers}

-- one number more
each-push : {X : Type 0} (f : ℕ → X) (from n : ℕ) → each f from (suc n) ≡ each f from n ++ f (from + n) ∷ []
each-push f from zero = let e : from ≡ from + 0 = omega arith in ap (λ k. f k ∷ []) e
each-push f from (suc n) =
    let e : suc from + n ≡ from + suc n = omega arith in
    ap (λ xs. f from ∷ xs) (each-push f (suc from) n ∙ ap (λ k. each f (suc from) n ++ f k ∷ []) e)

pub numbers-push : (from n : ℕ) → numbers from (suc n) ≡ numbers from n ++ (from + n) ∷ []
numbers-push from n = each-push (λ i. i) from n

each-map : {X : Type 0} (f : ℕ → X) (from n : ℕ) → map f (numbers from n) ≡ each f from n
each-map f from zero = refl
each-map f from (suc n) = ap (λ xs. f from ∷ xs) (each-map f (suc from) n)

-- each number is below the last
below : (from n limit : ℕ) → from + n ≤ limit → All (λ i. i < limit) (numbers from n)
below from zero limit le k d small = absurd (omega (arith, small))
below from (suc n) limit le zero d small = omega (arith, le)
below from (suc n) limit le (suc k) d small = below (suc from) n limit (omega (arith, le)) k d (omega (arith, small))

pub kept-below : (p : ℕ → Bool) (from n limit : ℕ) → from + n ≤ limit → All (λ i. i < limit) (filter p (numbers from n))
kept-below p from n limit le = All-filter p (λ i. i < limit) (numbers from n) (below from n limit le)

-- what is read at the numbers that pass is what passes of all that is read
pub kept-are : {X : Type 0} (f : ℕ → X) (p : ℕ → Bool) (q : X → Bool) (from n : ℕ) → ((i : ℕ) → p i ≡ q (f i))
    → map f (filter p (numbers from n)) ≡ filter q (each f from n)
kept-are f p q from zero same = refl
kept-are f p q from (suc n) same =
    one f p q from (filter p (numbers (suc from) n)) (filter q (each f (suc from) n)) (p from) refl (same from) (kept-are f p q (suc from) n same)
  where
    one : {X : Type 0} (f : ℕ → X) (p : ℕ → Bool) (q : X → Bool) (i : ℕ) (ks : List ℕ) (xs : List X) (b : Bool) → p i ≡ b → p i ≡ q (f i) → map f ks ≡ xs
        → map f (if p i then i ∷ ks else ks) ≡ (if q (f i) then f i ∷ xs else xs)
    one f p q i ks xs true e same rest = rw (e, sym same ∙ e) (ap (λ ys. f i ∷ ys) rest)
    one f p q i ks xs false e same rest = rw (e, sym same ∙ e) rest

pub length-numbers : (from n : ℕ) → length (numbers from n) ≡ n
length-numbers from zero = refl
length-numbers from (suc n) = ap suc (length-numbers (suc from) n)

-- the numbers up to one, and that one if it passes
more : (p : ℕ → Bool) (from i : ℕ) → from ≤ i
    → filter p (numbers from (i + 1 - from)) ≡ filter p (numbers from (i - from)) ++ (if p i then i ∷ [] else [])
more p from i le =
    let n : i + 1 - from ≡ suc (i - from) = omega (arith, le) in
    let last : from + (i - from) ≡ i = omega (arith, le) in
    ap (λ k. filter p (numbers from k)) n ∙ ap (filter p) (numbers-push from (i - from))
    ∙ filter-append p (numbers from (i - from)) ((from + (i - from)) ∷ [])
    ∙ ap (λ k. filter p (numbers from (i - from)) ++ (if p k then k ∷ [] else [])) last

pub more-yes : (p : ℕ → Bool) (from i : ℕ) → from ≤ i → p i ≡ true → filter p (numbers from (i + 1 - from)) ≡ filter p (numbers from (i - from)) ++ i ∷ []
more-yes p from i le passes = more p from i le ∙ ap (λ b. filter p (numbers from (i - from)) ++ (if b then i ∷ [] else [])) passes

pub more-no : (p : ℕ → Bool) (from i : ℕ) → from ≤ i → p i ≡ false → filter p (numbers from (i + 1 - from)) ≡ filter p (numbers from (i - from))
more-no p from i le fails =
    more p from i le ∙ ap (λ b. filter p (numbers from (i - from)) ++ (if b then i ∷ [] else [])) fails ∙ append-nil (filter p (numbers from (i - from)))
