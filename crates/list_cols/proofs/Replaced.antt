-- Another item in the place of one.
use Rattle.std.proofs.Common.{◌≡◌, ◌≢◌, ◌∙◌, ℕ, zero, suc, ◌+◌, ◌<◌, List, [], ◌∷◌, ◌++◌, length, set, get_or, take, drop, refl, ap, arith}
use Rattle.std.proofs.lemmas.List.{get_or-set_other, get_or-set_same, length-set}
use Rattle.data_types.specs.promise.Parts.{replaced}

pub replaced-set : {X : Type 0} (p : ℕ) (x : X) (xs : List X) → p < length xs → replaced p x xs ≡ set xs p x
replaced-set p x [] lt = absurd (omega (arith, lt))
replaced-set zero x (y ∷ ys) lt = refl
replaced-set (suc p) x (y ∷ ys) lt =
    let e : suc p + 1 ≡ suc (p + 1) = omega arith in
    ap (λ n. (y ∷ take p ys) ++ x ∷ drop n (y ∷ ys)) e ∙ ap (λ zs. y ∷ zs) (replaced-set p x ys (omega (arith, lt)))

pub length-replaced : {X : Type 0} (p : ℕ) (x : X) (xs : List X) → p < length xs → length (replaced p x xs) ≡ length xs
length-replaced p x xs lt = ap length (replaced-set p x xs lt) ∙ length-set xs p x

pub replaced-same : {X : Type 0} (p : ℕ) (x : X) (xs : List X) (d : X) → p < length xs → get_or (replaced p x xs) p d ≡ x
replaced-same p x xs d lt = ap (λ ys. get_or ys p d) (replaced-set p x xs lt) ∙ get_or-set_same xs p x d lt

pub replaced-other : {X : Type 0} (p k : ℕ) (x : X) (xs : List X) (d : X) → p < length xs → k ≢ p → get_or (replaced p x xs) k d ≡ get_or xs k d
replaced-other p k x xs d lt ne = ap (λ ys. get_or ys k d) (replaced-set p x xs lt) ∙ get_or-set_other xs p k x d ne
