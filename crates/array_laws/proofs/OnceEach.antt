-- Items that are taken once each have no more bytes than all items.
use Rattle.std.proofs.Common.{◌≡◌, ◌≢◌, ℕ, zero, suc, ◌+◌, ◌-◌, ◌<◌, ◌≤◌, Bool, true, false, List, [], ◌∷◌, length, get_or, refl, sym, ap, arith, inl, inr}
use Rattle.std.proofs.Common.{length-append}
use Rattle.std.specs.Prelude.{◌==◌, All, map, if◌then◌else◌}
use Rattle.std.specs.List.{concat}
use Rattle.std.proofs.lemmas.Bool.{cases_eq}
use Rattle.std.proofs.lemmas.Bool.Decides.{nat_tests}
use Rattle.data_types.specs.promise.Value.{Value, byte_total, bytes_of}
use Rattle.layout_rules.specs.promise.Values.{each}
use Rattle.array_laws.specs.Items.{AreApart}

-- ---- numbers that are there once each, and what each weighs

-- what the numbers below one weigh
below : (ℕ → ℕ) → ℕ → ℕ
below w zero = 0
below w (suc n) = below w n + w n

weights : (ℕ → ℕ) → List ℕ → ℕ
weights w [] = 0
weights w (i ∷ is) = w i + weights w is

-- one number weighs nothing
without : ℕ → (ℕ → ℕ) → ℕ → ℕ
without i w k = if k == i then 0 else w k

own : (i : ℕ) (w : ℕ → ℕ) → without i w i ≡ 0
unfolding without
own i w =
    let same : (i == i) ≡ true = grind (arith, nat_tests) in
    ap (λ (b : Bool). if b then 0 else w i) same

other : (i : ℕ) (w : ℕ → ℕ) (k : ℕ) → k ≢ i → without i w k ≡ w k
unfolding without
other i w k differ =
    let apart : (k == i) ≡ false = grind (arith, nat_tests, differ) in
    ap (λ (b : Bool). if b then 0 else w k) apart

same-below : (i : ℕ) (w : ℕ → ℕ) (n : ℕ) → n ≤ i → below (without i w) n ≡ below w n
unfolding below
same-below i w zero few = refl
same-below i w (suc n) few =
    let differ : n ≢ i = omega (arith, few) in
    omega (arith, same-below i w n (omega (arith, few)), other i w n differ)

parted : (i : ℕ) (w : ℕ → ℕ) (n : ℕ) → i < n → below (without i w) n + w i ≡ below w n
unfolding below
parted i w zero inside = absurd (omega (arith, inside))
parted i w (suc n) inside =
    elim (cases_eq n i) [
      | inl e ↦ omega (arith, same-below i w n (omega (arith, e)), own i w, ap (without i w) e, ap w e)
      | inr differ ↦ omega (arith, parted i w n (omega (arith, inside, differ)), other i w n differ)
    ]

unchanged : (i : ℕ) (w : ℕ → ℕ) (is : List ℕ) → ((j : ℕ) → j < length is → get_or is j 0 ≢ i) → weights (without i w) is ≡ weights w is
unfolding weights
unchanged i w [] apart = refl
unchanged i w (k ∷ ks) apart =
    omega (arith, other i w k (apart 0 (omega arith)), unchanged i w ks (λ j small. apart (suc j) (omega (arith, small))))

most : (w : ℕ → ℕ) (n : ℕ) (is : List ℕ) → All (λ i. i < n) is → AreApart is → weights w is ≤ below w n
unfolding weights
most w n [] inside apart = omega arith
most w n (i ∷ is) inside apart =
    let here : i < n = inside 0 0 (omega arith) in
    let later : ((j : ℕ) → j < length is → get_or is j 0 ≢ i) = λ j small e. apart 0 (suc j) (omega arith) (omega (arith, small)) (sym e) in
    let rest = most (without i w) n is (λ k d small. inside (suc k) d (omega (arith, small)))
    (λ j k less small. apart (suc j) (suc k) (omega (arith, less)) (omega (arith, small))) in
    omega (arith, rest, unchanged i w is later, parted i w n here)

shifted : (w : ℕ → ℕ) (a n : ℕ) → below (λ k. w (a + k)) n + below w a ≡ below w (a + n)
unfolding below
shifted w a zero =
    let same : a + 0 ≡ a = omega arith in
    omega (arith, ap (below w) same)
shifted w a (suc n) =
    let same : a + suc n ≡ suc (a + n) = omega arith in
    omega (arith, shifted w a n, ap (below w) same)

-- ---- the bytes of items

abbrev bytes-at : (ℕ → Value) → ℕ → ℕ
bytes-at f k = length (bytes_of (f k))

total-below : (f : ℕ → Value) (a n : ℕ) → byte_total (each f a n) + below (bytes-at f) a ≡ below (bytes-at f) (a + n)
unfolding below
total-below f a zero =
    let same : a + 0 ≡ a = omega arith in
    omega (arith, ap (below (bytes-at f)) same)
total-below f a (suc n) =
    let same : suc a + n ≡ a + suc n = omega arith in
    omega (
      arith,
      total-below f (suc a) n,
      ap (below (bytes-at f)) same,
      length-append (bytes_of (f a)) (concat (map bytes_of (each f (suc a) n))),
    )

total-kept : (f : ℕ → Value) (start : ℕ) (kept : List ℕ) → byte_total (map (λ i. f (start + i)) kept) ≡ weights (λ i. bytes-at f (start + i)) kept
unfolding weights
total-kept f start [] = refl
total-kept f start (i ∷ is) =
    omega (arith, total-kept f start is, length-append (bytes_of (f (start + i))) (concat (map bytes_of (map (λ k. f (start + k)) is))))

room : (w : ℕ → ℕ) (start n m : ℕ) → m ≡ n - start → below (λ k. w (start + k)) m ≤ below w n
unfolding below
room w start n zero is = omega arith
room w start n (suc m) is =
    let whole : start + suc m ≡ n = omega (arith, is) in
    omega (arith, shifted w start (suc m), ap (below w) whole)

-- where numbers that are counted from one on lie below another
left : (start n : ℕ) (kept : List ℕ) → All (λ i. start + i < n) kept → All (λ i. i < n - start) kept
left start n kept inside k d small = omega (arith, inside k d small)

pub once-total : (f : ℕ → Value) (start n : ℕ) (kept : List ℕ) → All (λ i. start + i < n) kept → AreApart kept
    → byte_total (map (λ i. f (start + i)) kept) ≤ byte_total (each f 0 n)
unfolding below
once-total f start n kept inside apart =
    let none : 0 + n ≡ n = omega arith in
    omega (
      arith,
      total-kept f start kept,
      most (λ i. bytes-at f (start + i)) (n - start) kept (left start n kept inside) apart,
      room (bytes-at f) start n (n - start) refl,
      total-below f 0 n,
      ap (below (bytes-at f)) none,
    )

ones : (kept : List ℕ) → weights (λ i. 1) kept ≡ length kept
unfolding weights
ones [] = refl
ones (i ∷ is) = omega (arith, ones is)

ones-below : (n : ℕ) → below (λ i. 1) n ≡ n
unfolding below
ones-below zero = refl
ones-below (suc n) = omega (arith, ones-below n)

pub once-few : (start n : ℕ) (kept : List ℕ) → All (λ i. start + i < n) kept → AreApart kept → length kept ≤ n
once-few start n kept inside apart =
    omega (arith, most (λ i. 1) (n - start) kept (left start n kept inside) apart, ones kept, ones-below (n - start))
