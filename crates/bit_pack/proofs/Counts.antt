-- Counts of clear bits: bit by bit, and by whole bytes.
use Rattle.std.proofs.Common.{◌≡◌, ℕ, zero, suc, ◌+◌, ◌-◌, ◌*◌, ◌/◌, ◌%◌, ◌^◌, ◌<◌, ◌≤◌, List, get_or, refl, ap, ◌∙◌, arith}
use Rattle.std.specs.Int.{bit_at}
use Rattle.std.specs.Int.RustNames.{count_ones}
use Rattle.std.specs.Int.Count.{ones_step}
use Rattle.std.proofs.lemmas.Nat.{ones-le}
use Rattle.std.proofs.lemmas.Nat.Bits.{bit_at-lt, bit_at-suc, bit_at_lowest}
use Rattle.data_types.specs.promise.Packed.{bit}
use Rattle.data_types.specs.Packed.{clear_count}

-- ---- counts in parts
-- a count in two parts
pub count_parts : (bytes : List ℕ) (first a b : ℕ) → clear_count bytes first (a + b) ≡ clear_count bytes first a + clear_count bytes (first + a) b
count_parts bytes first a zero = let e : a + 0 ≡ a = omega arith in ap (clear_count bytes first) e ∙ omega arith
count_parts bytes first a (suc b) =
    let e : a + suc b ≡ suc (a + b) = omega arith in
    let place : first + (a + b) ≡ first + a + b = omega arith in
    let bits : bit bytes (first + (a + b)) ≡ bit bytes (first + a + b) = ap (bit bytes) place in
    ap (clear_count bytes first) e ∙ omega (arith, count_parts bytes first a b, bits)

-- three parts, of which the middle one is whole bytes
pub three_parts : (bytes : List ℕ) (from len first end : ℕ) → from ≤ 8 * first → first ≤ end → 8 * end ≤ from + len
    → clear_count bytes from len
    ≡ clear_count bytes from (8 * first - from) + clear_count bytes (8 * first) (8 * (end - first)) + clear_count bytes (8 * end) (from + len - 8 * end)
three_parts bytes from len first end low mid high =
    let whole : len ≡ (8 * first - from) + (8 * (end - first) + (from + len - 8 * end)) = omega arith in
    let one : from + (8 * first - from) ≡ 8 * first = omega arith in
    let two : 8 * first + 8 * (end - first) ≡ 8 * end = omega arith in
    let at_one = ap (λ (p : ℕ). clear_count bytes p (8 * (end - first) + (from + len - 8 * end))) one in
    let at_two = ap (λ (p : ℕ). clear_count bytes p (from + len - 8 * end)) two in
    ap (clear_count bytes from) whole
    ∙ omega (
      arith,
      count_parts bytes from (8 * first - from) (8 * (end - first) + (from + len - 8 * end)),
      at_one,
      count_parts bytes (8 * first) (8 * (end - first)) (from + len - 8 * end),
      at_two,
    )

-- ---- bits that are set, and bits that are clear
-- how many of the bits are set
abbrev set_count : List ℕ → ℕ → ℕ → ℕ
set_count bytes first zero = 0
set_count bytes first (suc len) = set_count bytes first len + bit bytes (first + len)

clear_and_set : (bytes : List ℕ) (first len : ℕ) → clear_count bytes first len + set_count bytes first len ≡ len
clear_and_set bytes first zero = refl
clear_and_set bytes first (suc len) = omega (arith, clear_and_set bytes first len, bit_at-lt (get_or bytes ((first + len) / 8) 0) ((first + len) % 8))

-- the bits of a byte
bit_of : (bytes : List ℕ) (k i : ℕ) → i < 8 → bit bytes (8 * k + i) ≡ bit_at (get_or bytes k 0) i
bit_of bytes k i small =
    let byte : (8 * k + i) / 8 ≡ k = omega arith in
    let place : (8 * k + i) % 8 ≡ i = omega arith in
    rw (byte, place) refl

-- the set bits of a number, one by one from the lowest
abbrev set_bits : ℕ → ℕ → ℕ
set_bits n zero = 0
set_bits n (suc k) = set_bits n k + bit_at n k

from_lowest : (n k : ℕ) → set_bits n (suc k) ≡ n % 2 + set_bits (n / 2) k
from_lowest n zero = omega (arith, bit_at_lowest n)
from_lowest n (suc k) = omega (arith, from_lowest n k, bit_at-suc n k)

ones_are : (k n : ℕ) → n < 2 ^ k → count_ones n ≡ set_bits n k
ones_are zero n small = omega (arith, ones-le 0 n small)
ones_are (suc k) n small =
    let half : n / 2 < 2 ^ k = omega (arith, small) in
    ones_step n ∙ omega (arith, ones_are k (n / 2) half, from_lowest n k)

set_in_byte : (bytes : List ℕ) (k i : ℕ) → i ≤ 8 → set_count bytes (8 * k) i ≡ set_bits (get_or bytes k 0) i
set_in_byte bytes k zero small = refl
set_in_byte bytes k (suc i) small = omega (arith, set_in_byte bytes k i (omega arith), bit_of bytes k i (omega arith))

-- the clear bits of a byte
clear_in_byte : (bytes : List ℕ) (k : ℕ) → get_or bytes k 0 < 256 → clear_count bytes (8 * k) 8 ≡ 8 - count_ones (get_or bytes k 0)
clear_in_byte bytes k small = omega (arith, clear_and_set bytes (8 * k) 8, set_in_byte bytes k 8 (omega arith), ones_are 8 (get_or bytes k 0) small)

pub one_byte_more : (bytes : List ℕ) (first i : ℕ) → first ≤ i → get_or bytes i 0 < 256
    → clear_count bytes (8 * first) (8 * (i + 1 - first)) ≡ clear_count bytes (8 * first) (8 * (i - first)) + (8 - count_ones (get_or bytes i 0))
one_byte_more bytes first i within small =
    let more : 8 * (i + 1 - first) ≡ 8 * (i - first) + 8 = omega arith in
    let here : 8 * first + 8 * (i - first) ≡ 8 * i = omega arith in
    let at_here = ap (λ (p : ℕ). clear_count bytes p 8) here in
    ap (clear_count bytes (8 * first)) more ∙ omega (arith, count_parts bytes (8 * first) (8 * (i - first)) 8, at_here, clear_in_byte bytes i small)
