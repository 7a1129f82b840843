-- How many bytes values have.
use Rattle.std.proofs.Common.{◌≡◌, ◌≤◌, ◌<◌, ◌+◌, ◌*◌, ℕ, zero, suc, List, [], ◌∷◌, ◌++◌, length, map, take, replicate, get_or, arith}
use Rattle.std.proofs.Math.Nat.{suc-mul}
use Rattle.std.proofs.lemmas.List.{length-append}
use Rattle.std.specs.List.{concat, flat_map}
use Rattle.data_types.specs.promise.Value.{Value, byte_total, bytes_of}

-- ---- bytes

pub total-append : (xs ys : List Value) → byte_total (xs ++ ys) ≡ byte_total xs + byte_total ys
total-append [] ys = omega arith
total-append (x ∷ xs) ys =
    omega (
      arith,
      total-append xs ys,
      length-append (bytes_of x) (concat (map bytes_of (xs ++ ys))),
      length-append (bytes_of x) (concat (map bytes_of xs)),
    )

pub total-one : (v : Value) → byte_total (v ∷ []) ≡ length (bytes_of v)
total-one v = omega (arith, length-append (bytes_of v) [])

total-cons : (v : Value) (vs : List Value) → byte_total (v ∷ vs) ≡ length (bytes_of v) + byte_total vs
total-cons v vs = length-append (bytes_of v) (concat (map bytes_of vs))

pub total-times : (n : ℕ) (v : Value) → byte_total (replicate n v) ≡ n * length (bytes_of v)
total-times zero v = omega arith
total-times (suc n) v = omega (arith, total-cons v (replicate n v), total-times n v, suc-mul n (length (bytes_of v)))

-- the first of some pieces, and one more

pub total-prefix : {X : Type 0} (f : X → List Value) (xs : List X) (k : ℕ) → byte_total (flat_map f (take k xs)) ≤ byte_total (flat_map f xs)
total-prefix f [] zero = omega arith
total-prefix f [] (suc k) = omega arith
total-prefix f (x ∷ xs) zero = omega arith
total-prefix f (x ∷ xs) (suc k) =
    omega (arith, total-append (f x) (flat_map f (take k xs)), total-append (f x) (flat_map f xs), total-prefix f xs k)

pub total-next : {X : Type 0} (f : X → List Value) (xs : List X) (k : ℕ) (d : X) → k < length xs
    → byte_total (flat_map f (take (suc k) xs)) ≡ byte_total (flat_map f (take k xs)) + byte_total (f (get_or xs k d))
total-next f [] k d lt = absurd (omega (arith, lt))
total-next f (x ∷ xs) zero d lt = omega (arith, total-append (f x) [])
total-next f (x ∷ xs) (suc k) d lt =
    omega (
      arith,
      total-append (f x) (flat_map f (take k xs)),
      total-append (f x) (flat_map f (take (suc k) xs)),
      total-next f xs k d (omega (arith, lt)),
    )
