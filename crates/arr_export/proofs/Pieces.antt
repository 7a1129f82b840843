-- Pieces of one size that are one behind the other, and numbers among them.
use Rattle.std.proofs.Common.{◌≡◌, ◌∙◌, ℕ, zero, suc, ◌+◌, ◌*◌, ◌/◌, ◌^◌, ◌<◌, List, [], ◌∷◌, ◌++◌, length, get_or, take, drop, refl, ap, arith, length-append}
use Rattle.std.proofs.lemmas.List.{take_at}
use Rattle.std.proofs.lemmas.List.Elements.{All-head, All-tail}
use Rattle.std.proofs.lemmas.Nat.{pow-add}
use Rattle.std.proofs.Math.Seq.{drop-append-add}
use Rattle.std.specs.List.{All, flat_map}
use Rattle.data_types.specs.promise.Packed.{le_bytes, le_number, number_at}

module _ {X : Type 0} (f : X → List ℕ) (width : ℕ) where
  pub length-pieces : (xs : List X) → All (λ x. length (f x) ≡ width) xs → length (flat_map f xs) ≡ length xs * width
  length-pieces [] all = omega arith
  length-pieces (x ∷ xs) all =
      let here = All-head (λ x. length (f x) ≡ width) x xs all in
      let rest = length-pieces xs (All-tail (λ x. length (f x) ≡ width) x xs all) in
      omega (arith, length-append (f x) (flat_map f xs))

  pub piece-at : (xs : List X) (i : ℕ) (d : X) → All (λ x. length (f x) ≡ width) xs → i < length xs
      → take width (drop (i * width) (flat_map f xs)) ≡ f (get_or xs i d)
  piece-at [] i d all lt = absurd (omega arith)
  piece-at (x ∷ xs) zero d all lt =
      let none : zero * width ≡ 0 = omega arith in
      ap (λ n. take width (drop n (f x ++ flat_map f xs))) none ∙ take_at (f x) (flat_map f xs) width (All-head (λ x. length (f x) ≡ width) x xs all)
  piece-at (x ∷ xs) (suc i) d all lt =
      let here = All-head (λ x. length (f x) ≡ width) x xs all in
      let more : suc i * width ≡ length (f x) + i * width = omega (arith, here) in
      ap (λ n. take width (drop n (f x ++ flat_map f xs))) more
      ∙ ap (take width) (drop-append-add (f x) (flat_map f xs) (i * width))
      ∙ piece-at xs i d (All-tail (λ x. length (f x) ≡ width) x xs all) (omega arith)

-- ---- numbers

pub length-le_bytes : (width number : ℕ) → length (le_bytes width number) ≡ width
length-le_bytes zero number = refl
length-le_bytes (suc width) number = ap suc (length-le_bytes width (number / 256))

-- a number is back from its bytes
pub number-back : (width number : ℕ) → number < 2 ^ (8 * width) → le_number (le_bytes width number) ≡ number
number-back zero number small = omega (arith, small)
number-back (suc width) number small =
    let power : 2 ^ (8 * suc width) ≡ 2 ^ (8 * width) * 256 = ap (λ n. 2 ^ n) (omega arith) ∙ pow-add 2 (8 * width) 8 in
    omega (arith, number-back width (number / 256) (omega (arith, power)))

module _ {X : Type 0} (f : X → List ℕ) (width : ℕ) where
  pub number-there : (xs : List X) (i : ℕ) (d : X) (number : ℕ) → All (λ x. length (f x) ≡ width) xs → i < length xs → f (get_or xs i d) ≡ le_bytes width number
      → number < 2 ^ (8 * width)
      → number_at (flat_map f xs) (i * width) width ≡ number
  number-there xs i d number all lt is small =
      ap le_number (piece-at f width xs i d all lt ∙ is) ∙ number-back width number small
