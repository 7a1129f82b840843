-- Lists that are one behind the other, between their ends.
use Rattle.std.proofs.Common.{◌≡◌, ◌∙◌, ℕ, zero, suc, ◌+◌, ◌-◌, ◌*◌, ◌^◌, ◌<◌, ◌≤◌, pos, false, true, List, [], ◌∷◌, ◌++◌, All, length, get_or, refl, ap, arith}
use Rattle.std.proofs.Common.{length-append, append_assoc}
use Rattle.std.proofs.lemmas.Bool.{le-ltb, lt-ltb}
use Rattle.std.proofs.lemmas.List.{get_or-append-add, get_or_append_left}
use Rattle.std.specs.Prelude.{int_lt}
use Rattle.data_types.specs.promise.Packed.{le_bytes, meant, number_at}
use Rattle.data_types.specs.promise.Value.{Value, Null}
use Rattle.layout_rules.specs.promise.Layout.{offset_in}
use Rattle.layout_rules.specs.promise.Values.{each}
use Rattle.arr_export.proofs.Each.{each-is}
use Rattle.arr_export.proofs.Pieces.{length-le_bytes, length-pieces, number-there}
use Rattle.data_types.specs.promise.Groups.{sums_from}
use Rattle.list_cols.specs.ListTrees.{joined, list_lengths, list_offsets}

pub length-lengths : (lists : List (List Value)) → length (list_lengths lists) ≡ length lists
length-lengths [] = refl
length-lengths (list ∷ lists) = ap suc (length-lengths lists)

-- ---- where they end

pub length-ends : (at : ℕ) (counts : List ℕ) → length (sums_from at counts) ≡ length counts + 1
length-ends at [] = refl
length-ends at (count ∷ counts) = omega (arith, length-ends (at + count) counts)

pub first-end : (at : ℕ) (counts : List ℕ) → get_or (sums_from at counts) 0 0 ≡ at
first-end at [] = refl
first-end at (count ∷ counts) = refl

pub last-end : (at : ℕ) (lists : List (List Value)) → get_or (sums_from at (list_lengths lists)) (length lists) 0 ≡ at + length (joined lists)
last-end at [] = omega arith
last-end at (list ∷ lists) = omega (arith, last-end (at + length list) lists, length-append list (joined lists))

-- each ends behind the one before by its length
pub end-next : (at : ℕ) (lists : List (List Value)) (i : ℕ) → i < length lists
    → get_or (sums_from at (list_lengths lists)) (suc i) 0 ≡ get_or (sums_from at (list_lengths lists)) i 0 + length (get_or lists i [])
end-next at [] i lt = absurd (omega (arith, lt))
end-next at (list ∷ lists) zero lt = first-end (at + length list) (list_lengths lists)
end-next at (list ∷ lists) (suc i) lt = end-next (at + length list) lists i (omega (arith, lt))

pub end-below : (at : ℕ) (lists : List (List Value)) (i : ℕ) → i < length lists + 1
    → get_or (sums_from at (list_lengths lists)) i 0 ≤ at + length (joined lists)
end-below at [] zero lt = omega arith
end-below at [] (suc i) lt = absurd (omega (arith, lt))
end-below at (list ∷ lists) zero lt = omega arith
end-below at (list ∷ lists) (suc i) lt =
    omega (arith, end-below (at + length list) lists i (omega (arith, lt)), length-append list (joined lists))

-- the value at a place of a list
place-there : (before : List Value) (lists : List (List Value)) (i j : ℕ) → i < length lists → j < length (get_or lists i [])
    → get_or (before ++ joined lists) (get_or (sums_from (length before) (list_lengths lists)) i 0 + j) Null ≡ get_or (get_or lists i []) j Null
place-there before [] i j lt small = absurd (omega (arith, lt))
place-there before (list ∷ lists) zero j lt small =
    get_or-append-add before (list ++ joined lists) j Null ∙ get_or_append_left list (joined lists) Null j small
place-there before (list ∷ lists) (suc i) j lt small =
    let size : length before + length list ≡ length (before ++ list) = omega (arith, length-append before list) in
    rw (size, ← append_assoc before list (joined lists)) (place-there (before ++ list) lists i j (omega (arith, lt)) small)

-- the values between two ends are a list
pub between-ends : (read : ℕ → Value) (lists : List (List Value)) → ((k : ℕ) → k < length (joined lists) → read k ≡ get_or (joined lists) k Null)
    → (i : ℕ) → i < length lists
    → each read (get_or (sums_from 0 (list_lengths lists)) i 0)
    (get_or (sums_from 0 (list_lengths lists)) (suc i) 0 - get_or (sums_from 0 (list_lengths lists)) i 0)
    ≡ get_or lists i []
between-ends read lists same i lt =
    let here = get_or (sums_from 0 (list_lengths lists)) i 0 in
    let next = get_or (sums_from 0 (list_lengths lists)) (suc i) 0 in
    let end = end-next 0 lists i lt in
    let most = end-below 0 lists (suc i) (omega (arith, lt)) in
    let size : next - here ≡ length (get_or lists i []) = omega (arith, end) in
    ap (each read here) size
    ∙ each-is read (get_or lists i []) here Null (λ j small.
    same (here + j) (omega (arith, small, end, most)) ∙ place-there [] lists i j lt small)

-- ---- as offsets of 32 bits

module _ (lists : List (List Value)) (small : length (joined lists) < 2 ^ 31) where
  abbrev pub counts : List ℕ
  counts = list_lengths lists

  all-wide : All (λ n. length (le_bytes 4 n) ≡ 4) (sums_from 0 counts)
  all-wide k d lt = length-le_bytes 4 (get_or (sums_from 0 counts) k d)

  pub length-offsets : length (list_offsets counts) ≡ (length lists + 1) * 4
  length-offsets =
      length-pieces (le_bytes 4) 4 (sums_from 0 counts) all-wide
      ∙ ap (λ n. n * 4) (length-ends 0 counts ∙ ap (λ n. n + 1) (length-lengths lists))

  signed-small : (n : ℕ) → n < 2 ^ 31 → meant 4 true n ≡ pos n
  signed-small n low = rw (lt-ltb n (2 ^ 31) low) refl

  pub offset-is : (i : ℕ) → i < length lists + 1 → offset_in false (list_offsets counts) i ≡ pos (get_or (sums_from 0 counts) i 0)
  offset-is i lt =
      let low : get_or (sums_from 0 counts) i 0 < 2 ^ 31 = omega (arith, end-below 0 lists i lt, small) in
      let number : number_at (list_offsets counts) (i * 4) 4 ≡ get_or (sums_from 0 counts) i 0 =
      number-there (le_bytes 4) 4 (sums_from 0 counts) i 0 (get_or (sums_from 0 counts) i 0) all-wide
      (omega (arith, length-ends 0 counts, length-lengths lists, lt)) refl (omega (arith, low)) in
      ap (meant 4 true) number ∙ signed-small (get_or (sums_from 0 counts) i 0) low

  pub offset-first : offset_in false (list_offsets counts) 0 ≡ pos 0
  offset-first = offset-is 0 (omega arith) ∙ ap pos (first-end 0 counts)

  pub offset-last : offset_in false (list_offsets counts) (length lists) ≡ pos (length (joined lists))
  offset-last = offset-is (length lists) (omega arith) ∙ ap pos (last-end 0 lists ∙ omega arith)

  pub offsets-rise : (i : ℕ) → i < length lists → int_lt (offset_in false (list_offsets counts) (i + 1)) (offset_in false (list_offsets counts) i) ≡ false
  offsets-rise i lt =
      let next : i + 1 ≡ suc i = omega arith in
      rw (offset-is (i + 1) (omega (arith, lt)), offset-is i (omega (arith, lt)), next) (le-ltb _ _ (omega (arith, end-next 0 lists i lt)))
