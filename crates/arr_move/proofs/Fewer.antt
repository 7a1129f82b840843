-- There are no more distinct picks than children.
use Rattle.std.proofs.Common.{◌≡◌, ℕ, ◌+◌, ◌<◌, ◌≤◌, List, [], ◌∷◌, length, get_or, set, replicate, sym, ◌∙◌, arith, refl, suc, zero}
use Rattle.std.proofs.lemmas.List.{length-set, length-replicate, get_or-replicate, get_or-set_other}
use Rattle.tree_model.specs.promise.TreeData.{Tree}
use Rattle.tree_model.specs.promise.TreeParts.{children_of}
use Rattle.arr_move.specs.TreeActs.{Distinct, InRange}

abbrev total : List ℕ → ℕ
total [] = 0
total (u ∷ us) = u + total us

total-set : (us : List ℕ) (i : ℕ) → i < length us → total (set us i 0) + get_or us i 0 ≡ total us
total-set [] i h = absurd (omega arith)
total-set (u ∷ us) zero h = omega arith
total-set (u ∷ us) (suc i) h = omega (arith, total-set us i (omega arith))

total-ones : (n : ℕ) → total (replicate n 1) ≡ n
total-ones zero = refl
total-ones (suc n) = omega (arith, total-ones n)

-- each pick takes a place of its own, so they take no more than the places give
picks_le : (us picks : List ℕ) → Distinct picks → ((k : ℕ) → k < length picks → get_or picks k 0 < length us)
    → ((k : ℕ) → k < length picks → get_or us (get_or picks k 0) 0 ≡ 1) → length picks ≤ total us
picks_le us [] distinct inside one = omega arith
picks_le us (p ∷ ps) distinct inside one =
    let rest = picks_le (set us p 0) ps
    (λ i j low high. distinct (suc i) (suc j) (omega (arith, low)) (omega (arith, high)))
    (λ k h. omega (arith, length-set us p 0, inside (suc k) (omega (arith, h))))
    (λ k h. get_or-set_other us p (get_or ps k 0) 0 0 (λ e. distinct zero (suc k) (omega arith) (omega (arith, h)) (sym e)) ∙ one (suc k) (omega (arith, h))) in
    omega (arith, rest, total-set us p (inside zero (omega arith)), one zero (omega arith))

pub picks_le-children : {M : Type 0} (t : Tree M) (picks : List ℕ) → Distinct picks → InRange t picks → length picks ≤ length (children_of t)
picks_le-children t picks distinct inside =
    let n = length (children_of t) in
    omega (
      arith,
      picks_le (replicate {A = ℕ} n 1) picks distinct
          (λ k h. omega (arith, length-replicate {A = ℕ} n 1, inside k h))
          (λ k h. get_or-replicate {A = ℕ} n (get_or picks k 0) 1 0 (inside k h)),
      total-ones n,
    )
