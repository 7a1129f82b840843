-- Sixteen bytes: a number in two halves, and std's word for its bytes.
use Rattle.std.proofs.Common.{◌≡◌, ℕ, zero, suc, ◌+◌, ◌*◌, ◌/◌, ◌%◌, ◌^◌, ◌<◌, ◌≤◌, List, ◌∷◌, length, refl, sym, ap, ◌∙◌, arith}
use Rattle.std.specs.Int.{w128, to_le_bytes, bytes_low_first}
use Rattle.std.proofs.Math.Nat.{div-div-eq-div-mul, pow-suc, mul_assoc, mul_comm}
use Rattle.data_types.specs.promise.Packed.{number_at, le_bytes}
use Rattle.bit_pack.proofs.NumberFacts.{number_grows}

-- a number's lowest bytes and the rest
pub number_parts : (bytes : List ℕ) (at a k : ℕ) → at + a ≤ length bytes
    → number_at bytes at (a + k) ≡ number_at bytes at a + 256 ^ a * number_at bytes (at + a) k
number_parts bytes at zero k within =
    let here : at + 0 ≡ at = omega arith in
    let e = ap (λ (p : ℕ). number_at bytes p k) here in
    let all : 0 + k ≡ k = omega arith in
    ap (number_at bytes at) all ∙ omega (arith, e)
number_parts bytes at (suc a) k within =
    let lt : at < length bytes = omega arith in
    let here : suc at + a ≡ at + suc a = omega arith in
    let e = ap (λ (p : ℕ). number_at bytes p k) here in
    let power : 256 ^ suc a * number_at bytes (at + suc a) k ≡ 256 * (256 ^ a * number_at bytes (at + suc a) k) =
    ap (λ (x : ℕ). x * number_at bytes (at + suc a) k) (pow-suc 256 a ∙ mul_comm (256 ^ a) 256) ∙ mul_assoc 256 (256 ^ a) (number_at bytes (at + suc a) k) in
    let rest = number_parts bytes (suc at) a k (omega arith) in
    let turned = ap (λ (x : ℕ). 256 ^ a * x) e in
    let length : suc a + k ≡ suc (a + k) = omega arith in
    ap (number_at bytes at) length ∙ omega (arith, number_grows bytes at (a + k) lt, number_grows bytes at a lt, rest, turned, power)

pub two_halves : (bytes : List ℕ) (at : ℕ) → at + 16 ≤ length bytes → number_at bytes at 16 ≡ number_at bytes (at + 8) 8 * 2 ^ 64 + number_at bytes at 8
two_halves bytes at within = number_parts bytes at 8 8 (omega arith) ∙ omega arith

low_first : (i k n : ℕ) → bytes_low_first i k n ≡ le_bytes k (n / 256 ^ i)
low_first i zero n = refl
low_first zero (suc k) n =
    let one : n / 1 ≡ n = omega arith in
    let next : n / 256 ^ 1 ≡ n / 1 / 256 = omega arith in
    ap (λ (x : ℕ). x % 256 ∷ bytes_low_first 1 k n) (sym one) ∙ ap (λ (bs : List ℕ). n / 1 % 256 ∷ bs) (low_first 1 k n ∙ ap (le_bytes k) next)
low_first (suc i) (suc k) n =
    let next : n / 256 ^ suc (suc i) ≡ n / 256 ^ suc i / 256 = ap (λ (x : ℕ). n / x) (pow-suc 256 (suc i)) ∙ sym (div-div-eq-div-mul n (256 ^ suc i) 256) in
    ap (λ (bs : List ℕ). n / 256 ^ suc i % 256 ∷ bs) (low_first (suc (suc i)) k n ∙ ap (le_bytes k) next)

pub le_bytes_16 : (n : ℕ) → to_le_bytes w128 n ≡ le_bytes 16 n
le_bytes_16 n = let one : n / 1 ≡ n = omega arith in low_first 0 16 n ∙ ap (le_bytes 16) one
