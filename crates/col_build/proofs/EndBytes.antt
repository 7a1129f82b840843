-- The last narrow offset, which is how many bytes the items have.
use Rattle.std.proofs.Common.{◌≡◌, ◌≤◌, ◌<◌, ◌∙◌, ◌+◌, ◌*◌, ◌^◌, ◌++◌, ℕ, suc, false, List, [], ◌∷◌, length, take, drop, sym, ap, arith, length-append}
use Rattle.std.proofs.Math.Seq.{drop-append_seam}
use Rattle.std.proofs.lemmas.List.{drop-take, length-take-le, take-take}
use Rattle.std.specs.List.{concat, flat_map}
use Rattle.data_types.specs.promise.Packed.{le_bytes, le_number, number_at}
use Rattle.col_build.specs.promise.Encoding.{ends}
use Rattle.col_build.specs.Encoding.{offset_bytes}
use Rattle.col_build.specs.Holding.{end_at}

number-back : (n : ℕ) → n < 2 ^ 32 → le_number (le_bytes 4 n) ≡ n
number-back n few = omega arith

-- a number is that of the bytes up to its last
number-in : (bytes : List ℕ) (at : ℕ) → number_at (take (at + 4) bytes) at 4 ≡ number_at bytes at 4
number-in bytes at = ap (λ (bs : List ℕ). le_number (take 4 bs)) (drop-take at 4 bytes) ∙ ap le_number (take-take 4 4 (drop at bytes) (omega arith))

last-end : (at : ℕ) (items : List (List ℕ)) → at + length (concat items) < 2 ^ 32
    → number_at (flat_map (le_bytes 4) (ends at items)) (length items * 4) 4 ≡ at + length (concat items)
last-end at [] few = number-back at (omega (arith, few)) ∙ omega arith
last-end at (item ∷ items) few =
    let size : at + length item + length (concat items) ≡ at + length (item ++ concat items) = omega (arith, length-append item (concat items)) in
    let next : suc (length items) * 4 ≡ suc (suc (suc (suc (length items * 4)))) = omega arith in
    ap (λ k. number_at (flat_map (le_bytes 4) (ends at (item ∷ items))) k 4) next
    ∙ last-end (at + length item) items (omega (arith, size, few)) ∙ size

pub end-there : (offsets : List ℕ) (items : List (List ℕ)) (count : ℕ) → count ≡ length items → length (concat items) < 2 ^ 32
    → take ((count + 1) * 4) offsets ≡ offset_bytes false items → end_at offsets count ≡ length (concat items)
end-there offsets items count counted few there =
    let next : count * 4 + 4 ≡ (count + 1) * 4 = omega arith in
    sym (number-in offsets (count * 4))
    ∙ ap (λ k. number_at (take k offsets) (count * 4) 4) next
    ∙ ap (λ (bs : List ℕ). number_at bs (count * 4) 4) there
    ∙ ap (λ k. number_at (offset_bytes false items) (k * 4) 4) counted
    ∙ last-end 0 items (omega (arith, few)) ∙ omega arith

-- behind the same offsets
pub end-same : (others offsets : List ℕ) (count : ℕ) → take (count * 4 + 4) others ≡ take (count * 4 + 4) offsets → end_at others count ≡ end_at offsets count
end-same others offsets count kept =
    sym (number-in others (count * 4)) ∙ ap (λ (bs : List ℕ). number_at bs (count * 4) 4) kept ∙ number-in offsets (count * 4)

-- an offset that was stored
pub end-put : (others offsets : List ℕ) (at end : ℕ) → at ≤ length offsets → end < 2 ^ 32 → take (at + 4) others ≡ take at offsets ++ le_bytes 4 end
    → number_at others at 4 ≡ end
end-put others offsets at end inside few put =
    let begin = take at offsets in
    sym (number-in others at)
    ∙ ap (λ (bs : List ℕ). number_at bs at 4) put
    ∙ ap (λ k. number_at (begin ++ le_bytes 4 end) k 4) (sym (length-take-le at offsets inside))
    ∙ ap (λ (bs : List ℕ). le_number (take 4 bs)) (drop-append_seam begin (le_bytes 4 end))
    ∙ number-back end few
