-- The totals of more numbers.
use Rattle.std.proofs.Common.{arith, ◌≡◌, ◌∙◌, ◌≤◌, ◌<◌, ◌+◌, ◌*◌, ◌^◌, ◌++◌, ℕ, ℤ, pos, negsuc, ◌+ℤ◌, ◌≤ℤ◌, List, [], ◌∷◌, length, sym, ap, subst}
use Rattle.std.proofs.lemmas.Int.{ints}
use Rattle.std.proofs.lemmas.List.{length-append}
use Rattle.std.proofs.lemmas.List.Sums.{fold-append}
use Rattle.std.specs.Prelude.{nat_abs}
use Rattle.std.specs.List.{AllByRecursion, fold}
use Rattle.stage_model.specs.Stages.{greater, lesser, sum_of}
use Rattle.total_stage.specs.Totals.{AreTotals, IsSmall, highest, largest, lowest}
use Rattle.total_stage.specs.declared.numbers.Totals.{Totals}

-- ---- sums

-- a sum of this many numbers, none of which is large
pub record IsSumOf (count : ℕ) (sum : ℤ) : Type 0 where
  pub low : pos 0 ≤ℤ (sum +ℤ pos (count * largest))
  pub high : sum ≤ℤ pos (count * largest)

sum-more : (count : ℕ) (sum number : ℤ) → IsSumOf count sum → IsSmall number → IsSumOf (count + 1) (sum +ℤ number)
sum-more count sum number is small = record { low = omega (arith, ints, is.low, small.low); high = omega (arith, ints, is.high, small.high) }

sum-from : (count : ℕ) (sum : ℤ) (numbers : List ℤ) → IsSumOf count sum → AllByRecursion IsSmall numbers
    → IsSumOf (count + length numbers) (fold ◌+ℤ◌ sum numbers)
sum-from count sum [] is small = subst (λ (n : ℕ). IsSumOf n sum) (omega arith) is
sum-from count sum (number ∷ numbers) is small =
    subst (λ (n : ℕ). IsSumOf n (fold ◌+ℤ◌ (sum +ℤ number) numbers)) (omega arith)
    (sum-from (count + 1) (sum +ℤ number) numbers (sum-more count sum number is small.0) small.1)

pub sum-within : (numbers : List ℤ) → AllByRecursion IsSmall numbers → IsSumOf (length numbers) (sum_of numbers)
sum-within numbers small =
    subst (λ (n : ℕ). IsSumOf n (sum_of numbers)) (omega arith)
    (sum-from 0 (pos 0) numbers (record { low = omega (arith, ints); high = omega (arith, ints) }) small)

-- that of 2^30 numbers has 38 digits
pub sum-digits : (count : ℕ) (sum : ℤ) → count ≤ 2 ^ 30 → IsSumOf count sum → nat_abs sum < 10 ^ 38
sum-digits count (pos n) few is = omega (arith, ints, is.high, few)
sum-digits count (negsuc n) few is = omega (arith, ints, is.low, few)

sum-onto : (a : ℤ) (numbers : List ℤ) → fold ◌+ℤ◌ a numbers ≡ a +ℤ sum_of numbers
sum-onto a [] = omega (arith, ints)
sum-onto a (number ∷ numbers) = let e = sum-onto (a +ℤ number) numbers in let f = sum-onto (pos 0 +ℤ number) numbers in omega (arith, ints, e, f)

sum-joined : (numbers others : List ℤ) → sum_of (numbers ++ others) ≡ sum_of numbers +ℤ sum_of others
sum-joined numbers others = fold-append ◌+ℤ◌ (pos 0) numbers others ∙ sum-onto (sum_of numbers) others

pub totals-within : (t : Totals) (numbers : List ℤ) → AreTotals t numbers → IsSumOf (length numbers) t.sum
totals-within t numbers are = subst (IsSumOf (length numbers)) (sym are.sum) (sum-within numbers are.small)

-- ---- extremes

lesser-high : (a : ℤ) (numbers : List ℤ) → fold lesser a numbers ≤ℤ a
lesser-high a [] = omega (arith, ints)
lesser-high a (number ∷ numbers) =
    let rest = lesser-high (lesser a number) numbers in
    let here : lesser a number ≤ℤ a = below a number in
    omega (arith, ints, rest, here)
  where
    below : (a b : ℤ) → lesser a b ≤ℤ a
    below a b = grind (arith, ints)

lesser-both : (a b c : ℤ) → a ≤ℤ highest → c ≤ℤ highest → lesser (lesser a b) c ≡ lesser a (lesser (lesser highest b) c)
lesser-both a b c u v = grind (arith, ints)

lesser-onto : (a : ℤ) (numbers : List ℤ) → a ≤ℤ highest → fold lesser a numbers ≡ lesser a (fold lesser highest numbers)
lesser-onto a [] small = grind (arith, ints)
lesser-onto a (number ∷ numbers) small =
    let last = fold lesser highest numbers in
    let high : last ≤ℤ highest = lesser-high highest numbers in
    lesser-onto (lesser a number) numbers (below a number small) ∙ lesser-both a number last small high
    ∙ ap (lesser a) (sym (lesser-onto (lesser highest number) numbers (same number)))
  where
    below : (a b : ℤ) → a ≤ℤ highest → lesser a b ≤ℤ highest
    below a b u = grind (arith, ints)

    same : (b : ℤ) → lesser highest b ≤ℤ highest
    same b = grind (arith, ints)

least-joined : (numbers others : List ℤ) → fold lesser highest (numbers ++ others) ≡ lesser (fold lesser highest numbers) (fold lesser highest others)
least-joined numbers others =
    fold-append lesser highest numbers others ∙ lesser-onto (fold lesser highest numbers) others (lesser-high highest numbers)

greater-low : (a : ℤ) (numbers : List ℤ) → a ≤ℤ fold greater a numbers
greater-low a [] = omega (arith, ints)
greater-low a (number ∷ numbers) =
    let rest = greater-low (greater a number) numbers in
    let here : a ≤ℤ greater a number = above a number in
    omega (arith, ints, rest, here)
  where
    above : (a b : ℤ) → a ≤ℤ greater a b
    above a b = grind (arith, ints)

greater-both : (a b c : ℤ) → lowest ≤ℤ a → lowest ≤ℤ c → greater (greater a b) c ≡ greater a (greater (greater lowest b) c)
greater-both a b c u v = grind (arith, ints)

greater-onto : (a : ℤ) (numbers : List ℤ) → lowest ≤ℤ a → fold greater a numbers ≡ greater a (fold greater lowest numbers)
greater-onto a [] small = grind (arith, ints)
greater-onto a (number ∷ numbers) small =
    let last = fold greater lowest numbers in
    let low : lowest ≤ℤ last = greater-low lowest numbers in
    greater-onto (greater a number) numbers (above a number small) ∙ greater-both a number last small low
    ∙ ap (greater a) (sym (greater-onto (greater lowest number) numbers (same number)))
  where
    above : (a b : ℤ) → lowest ≤ℤ a → lowest ≤ℤ greater a b
    above a b u = grind (arith, ints)

    same : (b : ℤ) → lowest ≤ℤ greater lowest b
    same b = grind (arith, ints)

greatest-joined : (numbers others : List ℤ)
    → fold greater lowest (numbers ++ others) ≡ greater (fold greater lowest numbers) (fold greater lowest others)
greatest-joined numbers others =
    fold-append greater lowest numbers others ∙ greater-onto (fold greater lowest numbers) others (greater-low lowest numbers)

-- ---- totals

pub all-both : {X : Type 0} (P : X → Type 0) (xs ys : List X) → AllByRecursion P xs → AllByRecursion P ys → AllByRecursion P (xs ++ ys)
all-both P [] ys a b = b
all-both P (x ∷ xs) ys a b = (a.0, all-both P xs ys a.1 b)

-- one number more
pub added : (t made : Totals) (number : ℤ) (numbers : List ℤ) → AreTotals t numbers → IsSmall number → made.count ≡ t.count + 1
    → made.sum ≡ t.sum +ℤ number → made.least ≡ lesser t.least number → made.greatest ≡ greater t.greatest number
    → AreTotals made (numbers ++ number ∷ [])
added t made number numbers are small count sum least greatest = record {
  small = all-both IsSmall numbers (number ∷ []) are.small (small, tt);
  count = omega (arith, count, are.count, length-append numbers (number ∷ []));
  sum = sum ∙ ap (λ (z : ℤ). z +ℤ number) are.sum ∙ sym (fold-append ◌+ℤ◌ (pos 0) numbers (number ∷ []));
  least = least ∙ ap (λ (z : ℤ). lesser z number) are.least ∙ sym (fold-append lesser highest numbers (number ∷ []));
  greatest = greatest ∙ ap (λ (z : ℤ). greater z number) are.greatest ∙ sym (fold-append greater lowest numbers (number ∷ []));
}

-- other numbers behind these
pub joined : (t other made : Totals) (numbers others : List ℤ) → AreTotals t numbers → AreTotals other others → made.count ≡ t.count + other.count
    → made.sum ≡ t.sum +ℤ other.sum → made.least ≡ lesser t.least other.least → made.greatest ≡ greater t.greatest other.greatest
    → AreTotals made (numbers ++ others)
joined t other made numbers others are more count sum least greatest = record {
  small = all-both IsSmall numbers others are.small more.small;
  count = omega (arith, count, are.count, more.count, length-append numbers others);
  sum = sum ∙ (λ i. are.sum i +ℤ more.sum i) ∙ sym (sum-joined numbers others);
  least = least ∙ (λ i. lesser (are.least i) (more.least i)) ∙ sym (least-joined numbers others);
  greatest = greatest ∙ (λ i. greater (are.greatest i) (more.greatest i)) ∙ sym (greatest-joined numbers others);
}
