-- What a call on two picks asks for, from what is known of each of the two.
use Rattle.std.proofs.Common.{◌≡◌, ◌≢◌, ℕ, ℤ, ◌<◌, [], ◌∷◌, length, refl, arith, suc, zero}
use Rattle.tree_model.specs.promise.TreeData.{Tree, Released, Live}
use Rattle.tree_model.specs.promise.TreeParts.{IsLive, children_of, child_at}
use Rattle.raw_array.specs.promise.Members.{ArrayTree}
use Rattle.raw_array.specs.Windows.{FitsWindow}
use Rattle.arr_move.specs.TreeActs.{Distinct, InRange, FitWindow}

pub live_unless_released : {M : Type 0} (t : Tree M) → (t ≡ Released → ⊥) → IsLive t
live_unless_released Released n = absurd (n refl)
live_unless_released (Live m ts d) n = tt

pub two_distinct : (a b : ℕ) → a ≢ b → Distinct (a ∷ b ∷ [])
two_distinct a b ne zero zero low high = absurd (omega (arith, low))
two_distinct a b ne zero (suc zero) low high = ne
two_distinct a b ne (suc i) (suc zero) low high = absurd (omega (arith, low))
two_distinct a b ne (suc i) zero low high = absurd (omega (arith, low))
two_distinct a b ne i (suc (suc j)) low high = absurd (omega (arith, high))

pub two_in_range : {M : Type 0} (t : Tree M) (a b : ℕ) → a < length (children_of t) → b < length (children_of t) → InRange t (a ∷ b ∷ [])
two_in_range t a b x y zero inside = x
two_in_range t a b x y (suc zero) inside = y
two_in_range t a b x y (suc (suc k)) inside = absurd (omega (arith, inside))

pub two_fit : (t : ArrayTree) (a b : ℕ) (off len : ℤ) → FitsWindow (child_at t a) off len → FitsWindow (child_at t b) off len → FitWindow t (a ∷ b ∷ []) off len
two_fit t a b off len x y zero inside = x
two_fit t a b off len x y (suc zero) inside = y
two_fit t a b off len x y (suc (suc k)) inside = absurd (omega (arith, inside))

pub ruleset picked = (live_unless_released, two_distinct, two_in_range, two_fit)
