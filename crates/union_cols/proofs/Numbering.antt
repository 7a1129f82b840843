-- The numbers from 0 on, and their bytes.
use Rattle.std.proofs.Common.{◌≡◌, ℕ, zero, suc, ◌+◌, ◌-◌, ◌*◌, ◌^◌, ◌<◌, ◌≤◌, cond, List, [], ◌∷◌, ◌++◌, length, get_or, map, take, drop, Some, refl, ap, sym, ◌∙◌, inl, inr, arith}
use Rattle.std.specs.Prelude.{◌/◌}
use Rattle.std.specs.Prelude.{◌==◌, pos, true, position}
use Rattle.std.specs.List.{flat_map, position_from}
use Rattle.std.proofs.lemmas.Bool.{cases_eq, eq-eqb, ne_eqb, lt-ltb}
use Rattle.std.proofs.lemmas.List.{length-append, map-id}
use Rattle.std.proofs.lemmas.Iterator.Adapters.{position_from-zero}
use Rattle.std.proofs.lemmas.Nat.{pow-add}
use Rattle.std.proofs.Math.Seq.{take-append_seam, drop-append-add}
use Rattle.data_types.specs.promise.Packed.{le_bytes, le_number, meant, number_at}
use Rattle.array_laws.proofs.WindowItems.{length-each}
use Rattle.layout_rules.specs.promise.Values.{each}
use Rattle.union_cols.specs.promise.UnionFormats.{AreIds}
use Rattle.union_cols.specs.Tags.{numbers, start_bytes}

-- ---- the values of a function from a number on

pub get_or-each : {X : Type 0} → (f : ℕ → X) (a n i : ℕ) (d : X) → i < n → get_or (each f a n) i d ≡ f (a + i)
get_or-each f a zero i d h = absurd (omega arith)
get_or-each f a (suc n) zero d h = let e : a ≡ a + 0 = omega arith in ap f e
get_or-each f a (suc n) (suc i) d h =
    let e : suc a + i ≡ a + suc i = omega arith in
    get_or-each f (suc a) n i d (omega arith) ∙ ap f e

pub map-each : {X Y : Type 0} → (g : X → Y) (f : ℕ → X) (a n : ℕ) → map g (each f a n) ≡ each (λ i. g (f i)) a n
map-each g f a zero = refl
map-each g f a (suc n) = ap (λ ys. g (f a) ∷ ys) (map-each g f (suc a) n)

pub each-more : {X : Type 0} → (f : ℕ → X) (a n : ℕ) → each f a (suc n) ≡ each f a n ++ f (a + n) ∷ []
each-more f a zero = let e : a ≡ a + 0 = omega arith in ap (λ i. f i ∷ []) e
each-more f a (suc n) =
    let e : suc a + n ≡ a + suc n = omega arith in
    ap (λ ys. f a ∷ ys) (each-more f (suc a) n ∙ ap (λ i. each f (suc a) n ++ f i ∷ []) e)

pub length-numbers : (n : ℕ) → length (numbers n) ≡ n
length-numbers n = length-each (λ k. k) 0 n

pub number-at : (n i d : ℕ) → i < n → get_or (numbers n) i d ≡ i
number-at n i d h = let e : 0 + i ≡ i = omega arith in get_or-each (λ k. k) 0 n i d h ∙ e

-- a list by the numbers of its places
pub map-numbers : {X Y : Type 0} → (g : X → Y) (d : X) (xs : List X) → map (λ k. g (get_or xs k d)) (numbers (length xs)) ≡ map g xs
map-numbers {X = X} g d xs = go xs 0 xs (λ k h. let e : 0 + k ≡ k = omega arith in ap (λ p. get_or xs p d) e)
  where
    go : (all : List X) (a : ℕ) (ys : List X) → ((k : ℕ) → k < length ys → get_or all (a + k) d ≡ get_or ys k d)
        → map (λ k. g (get_or all k d)) (each (λ k. k) a (length ys)) ≡ map g ys
    go all a [] same = refl
    go all a (y ∷ ys) same =
        let e : a ≡ a + 0 = omega arith in
        let head = ap (λ k. g (get_or all k d)) e ∙ ap g (same 0 (omega arith)) in
        let tail = go all (suc a) ys (λ k h. let f : suc a + k ≡ a + suc k = omega arith in ap (λ p. get_or all p d) f ∙ same (suc k) (omega (arith, h))) in
        λ t. head t ∷ tail t

-- ---- they are ids

pub numbers_are_ids : (n : ℕ) → n ≤ 128 → AreIds (numbers n)
numbers_are_ids n few =
    record {
      small = λ k d h.
          let inside : k < n = omega (arith, h, length-numbers n) in
          let is = number-at n k d inside in
          omega (arith, is, inside, few);
      distinct = λ i j d lt h.
          let inside : j < n = omega (arith, h, length-numbers n) in
          let first = number-at n i d (omega (arith, lt, inside)) in
          let second = number-at n j d inside in
          λ e. omega (arith, first, second, lt, e);
    }

from-number : (a n m x : ℕ) → a ≤ x → x < a + n → position_from (λ known. known == x) m (each (λ k. k) a n) ≡ Some (m + (x - a))
from-number a zero m x low high = absurd (omega (arith, low, high))
from-number a (suc n) m x low high =
    elim (cases_eq a x) [
      | inl same ↦
          let e : m ≡ m + (x - a) = omega (arith, same) in
          ap (λ b. cond b (Some m) (position_from (λ known. known == x) (m + 1) (each (λ k. k) (suc a) n))) (eq-eqb a x same) ∙ ap Some e
      | inr apart ↦
          let above : suc a ≤ x = omega (arith, low, apart) in
          let e : m + 1 + (x - suc a) ≡ m + (x - a) = omega (arith, above) in
          ap (λ b. cond b (Some m) (position_from (λ known. known == x) (m + 1) (each (λ k. k) (suc a) n))) (ne_eqb a x apart)
          ∙ from-number (suc a) n (m + 1) x above (omega (arith, high)) ∙ ap Some e
    ]

-- the place of a number among them
pub place-of-number : (n x : ℕ) → x < n → position (λ known. known == x) (numbers n) ≡ Some x
place-of-number n x h =
    let e : 0 + (x - 0) ≡ x = omega arith in
    position_from-zero (λ known. known == x) (numbers n) ∙ from-number 0 n 0 x (omega arith) (omega (arith, h)) ∙ ap Some e

-- ---- bytes

pub number-of-byte : (bytes : List ℕ) (i : ℕ) → i < length bytes → number_at bytes i 1 ≡ get_or bytes i 0
number-of-byte [] i h = absurd (omega arith)
number-of-byte (b ∷ bs) zero h = omega arith
number-of-byte (b ∷ bs) (suc i) h = number-of-byte bs i (omega arith)

pub meant-byte : (n : ℕ) → n < 128 → meant 1 true n ≡ pos n
meant-byte n h = rw (lt-ltb n 128 h) refl

le_back : (width n : ℕ) → n < 2 ^ (8 * width) → le_number (le_bytes width n) ≡ n
le_back zero n small = omega (arith, small)
le_back (suc width) n small =
    let power : 2 ^ (8 * suc width) ≡ 2 ^ (8 * width) * 256 = ap (λ (e : ℕ). 2 ^ e) (omega arith) ∙ pow-add 2 (8 * width) 8 in
    omega (arith, le_back width (n / 256) (omega (arith, small, power)))

length-le_bytes : (width n : ℕ) → length (le_bytes width n) ≡ width
length-le_bytes zero n = refl
length-le_bytes (suc width) n = omega (arith, length-le_bytes width (n / 256))

length-bytes : (xs : List ℕ) → length (flat_map (le_bytes 4) xs) ≡ 4 * length xs
length-bytes [] = refl
length-bytes (x ∷ xs) =
    omega (arith, length-append (le_bytes 4 x) (flat_map (le_bytes 4) xs), length-le_bytes 4 x, length-bytes xs)

pub length-starts : (n : ℕ) → length (start_bytes n) ≡ 4 * n
length-starts n = length-bytes (numbers n) ∙ ap (λ k. 4 * k) (length-numbers n)

number-of-four : (xs : List ℕ) (i : ℕ) → i < length xs → number_at (flat_map (le_bytes 4) xs) (i * 4) 4 ≡ le_number (le_bytes 4 (get_or xs i 0))
number-of-four [] i h = absurd (omega arith)
number-of-four (x ∷ xs) zero h =
    let rest = flat_map (le_bytes 4) xs in
    ap le_number (ap (λ k. take k (le_bytes 4 x ++ rest)) (sym (length-le_bytes 4 x)) ∙ take-append_seam (le_bytes 4 x) rest)
number-of-four (x ∷ xs) (suc i) h =
    let rest = flat_map (le_bytes 4) xs in
    let e : suc i * 4 ≡ length (le_bytes 4 x) + i * 4 = omega (arith, length-le_bytes 4 x) in
    ap (λ p. le_number (take 4 (drop p (le_bytes 4 x ++ rest)))) e
    ∙ ap (λ bs. le_number (take 4 bs)) (drop-append-add (le_bytes 4 x) rest (i * 4)) ∙ number-of-four xs i (omega arith)

-- an offset of them is the number of its place
pub start-of-number : (n i : ℕ) → n < 2 ^ 31 → i < n → meant 4 true (number_at (start_bytes n) (i * 4) 4) ≡ pos i
start-of-number n i few h =
    let is = number-of-four (numbers n) i (omega (arith, h, length-numbers n)) ∙ ap (λ x. le_number (le_bytes 4 x)) (number-at n i 0 h)
    ∙ le_back 4 i (omega (arith, h, few)) in
    let low : i < 2 ^ 31 = omega (arith, h, few) in
    ap (meant 4 true) is ∙ rw (lt-ltb i (2 ^ 31) low) refl

pub list-numbers : {X : Type 0} → (d : X) (xs : List X) → map (λ k. get_or xs k d) (numbers (length xs)) ≡ xs
list-numbers d xs = map-numbers (λ x. x) d xs ∙ map-id xs
