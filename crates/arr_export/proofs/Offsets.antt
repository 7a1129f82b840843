-- Items that are one behind the other, between offsets.
use Rattle.std.proofs.Common.{◌≡◌, ◌∙◌, ℕ, zero, suc, ◌+◌, ◌-◌, ◌*◌, ◌^◌, ◌<◌, ◌≤◌, pos, Bool, true, false, List, [], ◌∷◌, ◌++◌, length, get_or, take, drop}
use Rattle.std.proofs.Common.{refl, ap, arith, length-append, append_assoc}
use Rattle.std.proofs.lemmas.Bool.{le-ltb, lt-ltb}
use Rattle.std.proofs.Math.Seq.{drop-append_seam, take-append_seam}
use Rattle.std.specs.List.{All, concat}
use Rattle.data_types.specs.promise.Packed.{le_bytes, meant, number_at, offset_width}
use Rattle.col_build.specs.promise.Encoding.{ends}
use Rattle.col_build.specs.Encoding.{offset_bytes}
use Rattle.layout_rules.specs.promise.Layout.{natural, offset_in}
use Rattle.std.specs.Prelude.{int_lt}
use Rattle.arr_export.proofs.Pieces.{length-le_bytes, length-pieces, number-there}

-- this many bytes do offsets reach
abbrev pub limit : Bool → ℕ
limit wide = 2 ^ (8 * offset_width wide - 1)

limit-fits : (wide : Bool) (n : ℕ) → n < limit wide → n < 2 ^ (8 * offset_width wide)
limit-fits false n small = omega (arith, small)
limit-fits true n small = omega (arith, small)

length-ends : (at : ℕ) (items : List (List ℕ)) → length (ends at items) ≡ length items + 1
length-ends at [] = refl
length-ends at (item ∷ items) = omega (arith, length-ends (at + length item) items)

ends-within : (at : ℕ) (items : List (List ℕ)) (i : ℕ) → i < length items + 1
    → (at ≤ get_or (ends at items) i 0) × (get_or (ends at items) i 0 ≤ at + length (concat items))
ends-within at [] zero lt = (omega arith, omega arith)
ends-within at [] (suc i) lt = absurd (omega arith)
ends-within at (item ∷ items) zero lt = (omega arith, omega arith)
ends-within at (item ∷ items) (suc i) lt =
    let rest = ends-within (at + length item) items i (omega arith) in
    (omega (arith, rest.0), omega (arith, rest.1, length-append item (concat items)))

first-end : (at : ℕ) (items : List (List ℕ)) → get_or (ends at items) 0 0 ≡ at
first-end at [] = refl
first-end at (item ∷ items) = refl

last-end : (at : ℕ) (items : List (List ℕ)) → get_or (ends at items) (length items) 0 ≡ at + length (concat items)
last-end at [] = omega arith
last-end at (item ∷ items) = omega (arith, last-end (at + length item) items, length-append item (concat items))

ends-rise : (at : ℕ) (items : List (List ℕ)) (i : ℕ) → i < length items → get_or (ends at items) i 0 ≤ get_or (ends at items) (suc i) 0
ends-rise at [] i lt = absurd (omega arith)
ends-rise at (item ∷ items) zero lt = let rest = ends-within (at + length item) items 0 (omega arith) in omega (arith, rest.0)
ends-rise at (item ∷ items) (suc i) lt = ends-rise (at + length item) items i (omega arith)

-- the bytes between two ends
item-there : (before : List ℕ) (items : List (List ℕ)) (i : ℕ) → i < length items
    → take (get_or (ends (length before) items) (suc i) 0 - get_or (ends (length before) items) i 0)
    (drop (get_or (ends (length before) items) i 0) (before ++ concat items)) ≡ get_or items i []
item-there before [] i lt = absurd (omega arith)
item-there before (item ∷ items) zero lt =
    let next = first-end (length before + length item) items in
    let exact : length before + length item - length before ≡ length item = omega arith in
    rw (next, exact, drop-append_seam before (item ++ concat items)) (take-append_seam item (concat items))
item-there before (item ∷ items) (suc i) lt =
    let size : length before + length item ≡ length (before ++ item) = omega (arith, length-append before item) in
    rw (size, ← append_assoc before item (concat items)) (item-there (before ++ item) items i (omega arith))

signed-small : (width n : ℕ) → n < 2 ^ (8 * width - 1) → meant width true n ≡ pos n
signed-small width n small = rw (lt-ltb n (2 ^ (8 * width - 1)) small) refl

-- ---- the offsets of items whose bytes they reach
module _ (wide : Bool) (items : List (List ℕ)) (small : length (concat items) < limit wide) where
  all-wide : All (λ n. length (le_bytes (offset_width wide) n) ≡ offset_width wide) (ends 0 items)
  all-wide k d lt = length-le_bytes (offset_width wide) _

  pub length-offset_bytes : length (offset_bytes wide items) ≡ (length items + 1) * offset_width wide
  length-offset_bytes =
      length-pieces (le_bytes (offset_width wide)) (offset_width wide) (ends 0 items) all-wide ∙ ap (λ n. n * offset_width wide) (length-ends 0 items)

  offset-is : (i : ℕ) → i < length items + 1 → offset_in wide (offset_bytes wide items) i ≡ pos (get_or (ends 0 items) i 0)
  offset-is i lt =
      let within = ends-within 0 items i lt in
      let below : get_or (ends 0 items) i 0 < limit wide = omega (arith, within.1) in
      let number : number_at (offset_bytes wide items) (i * offset_width wide) (offset_width wide) ≡ get_or (ends 0 items) i 0 =
      number-there (le_bytes (offset_width wide)) (offset_width wide) (ends 0 items) i 0 (get_or (ends 0 items) i 0) all-wide
      (omega (arith, length-ends 0 items)) refl (limit-fits wide _ below) in
      ap (meant (offset_width wide) true) number ∙ signed-small (offset_width wide) (get_or (ends 0 items) i 0) below

  -- the first one is 0, none is above the next one, and the last one is the end of all bytes
  pub offset-first : offset_in wide (offset_bytes wide items) 0 ≡ pos 0
  offset-first = offset-is 0 (omega arith) ∙ ap pos (first-end 0 items)

  pub offset-last : offset_in wide (offset_bytes wide items) (length items) ≡ pos (length (concat items))
  offset-last = offset-is (length items) (omega arith) ∙ ap pos (last-end 0 items ∙ omega arith)

  pub offsets-rise : (i : ℕ) → i < length items → int_lt (offset_in wide (offset_bytes wide items) (i + 1)) (offset_in wide (offset_bytes wide items) i) ≡ false
  offsets-rise i lt =
      let next : i + 1 ≡ suc i = omega arith in
      rw (offset-is (i + 1) (omega arith), offset-is i (omega arith), next) (le-ltb _ _ (ends-rise 0 items i lt))

  -- the bytes between two of them are an item
  pub item-between : (i : ℕ) → i < length items
      → take (natural (offset_in wide (offset_bytes wide items) (i + 1)) - natural (offset_in wide (offset_bytes wide items) i))
      (drop (natural (offset_in wide (offset_bytes wide items) i)) (concat items)) ≡ get_or items i []
  item-between i lt =
      let next : i + 1 ≡ suc i = omega arith in
      rw (offset-is (i + 1) (omega arith), offset-is i (omega arith), next) (item-there [] items i lt)
