-- The bytes of a number, by parts of it.
use Rattle.std.proofs.Common.{◌≡◌, ◌∙◌, ◌+◌, ◌*◌, ◌/◌, ◌%◌, ◌^◌, ◌++◌, ℕ, zero, suc, List, ◌∷◌, refl, sym, ap, arith}
use Rattle.std.proofs.Math.Nat.{div-div-eq-div-mul, mul_comm, pow-suc}
use Rattle.std.proofs.Math.Pow.{mod-pow-add}
use Rattle.data_types.specs.promise.Packed.{le_bytes}

-- the lowest bytes are those of the rest
low-bytes : (width n : ℕ) → le_bytes width (n % 2 ^ (8 * width)) ≡ le_bytes width n
low-bytes zero n = refl
low-bytes (suc width) n =
    let more : 8 * suc width ≡ 8 * width + 8 = omega arith in
    let parts : n % 2 ^ (8 * suc width) ≡ (n / 2 ^ 8 % 2 ^ (8 * width)) * 2 ^ 8 + n % 2 ^ 8 = ap (λ k. n % 2 ^ k) more ∙ mod-pow-add n (8 * width) 8 in
    let digit : n % 2 ^ (8 * suc width) % 256 ≡ n % 256 = omega (arith, parts) in
    let rest : n % 2 ^ (8 * suc width) / 256 ≡ n / 256 % 2 ^ (8 * width) = omega (arith, parts) in
    ap (λ d. d ∷ le_bytes width (n % 2 ^ (8 * suc width) / 256)) digit
    ∙ ap (λ (bs : List ℕ). n % 256 ∷ bs) (ap (le_bytes width) rest ∙ low-bytes width (n / 256))

-- the lowest bytes, and those above them
bytes-parts : (low high n : ℕ) → le_bytes (low + high) n ≡ le_bytes low n ++ le_bytes high (n / 256 ^ low)
bytes-parts zero high n =
    let all : 0 + high ≡ high = omega arith in
    let whole : n / 256 ^ 0 ≡ n = omega arith in
    ap (λ k. le_bytes k n) all ∙ ap (le_bytes high) (sym whole)
bytes-parts (suc low) high n =
    let more : suc low + high ≡ suc (low + high) = omega arith in
    let power : 256 * 256 ^ low ≡ 256 ^ suc low = mul_comm 256 (256 ^ low) ∙ sym (pow-suc 256 low) in
    ap (λ k. le_bytes k n) more
    ∙ ap (λ (bs : List ℕ). n % 256 ∷ bs)
    (bytes-parts low high (n / 256)
    ∙ ap (λ k. le_bytes low (n / 256) ++ le_bytes high k) (div-div-eq-div-mul n 256 (256 ^ low) ∙ ap (λ k. n / k) power))

pub halves : (n : ℕ) → le_bytes 16 n ≡ le_bytes 8 (n % 2 ^ 64) ++ le_bytes 8 (n / 2 ^ 64)
halves n = bytes-parts 8 8 n ∙ ap (λ (bs : List ℕ). bs ++ le_bytes 8 (n / 2 ^ 64)) (sym (low-bytes 8 n))
