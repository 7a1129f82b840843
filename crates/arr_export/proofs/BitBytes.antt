-- Flags as bits, eight a byte.
use Rattle.std.proofs.Common.{◌≡◌, ◌∙◌, ℕ, zero, suc, ◌+◌, ◌/◌, ◌%◌, ◌<◌, Bool, true, false, List, [], ◌∷◌, length, get_or, refl, ap, arith}
use Rattle.std.proofs.lemmas.Nat.Bits.{bit_at-suc, bit_at_lowest}
use Rattle.std.specs.Int.{bit_at}
use Rattle.data_types.specs.promise.Packed.{bit}
use Rattle.col_build.specs.promise.Encoding.{bit_value, byte_of, bit_bytes}

bit_value-small : (flag : Bool) → bit_value flag < 2
bit_value-small true = omega arith
bit_value-small false = omega arith

byte-bit : (flags : List Bool) (i : ℕ) → i < length flags → bit_at (byte_of flags) i ≡ bit_value (get_or flags i false)
byte-bit [] i lt = absurd (omega arith)
byte-bit (flag ∷ flags) zero lt = bit_at_lowest (byte_of (flag ∷ flags)) ∙ omega (arith, bit_value-small flag)
byte-bit (flag ∷ flags) (suc i) lt =
    let half : byte_of (flag ∷ flags) / 2 ≡ byte_of flags = omega (arith, bit_value-small flag) in
    bit_at-suc (byte_of (flag ∷ flags)) i ∙ ap (λ n. bit_at n i) half ∙ byte-bit flags i (omega arith)

first-byte : (byte : ℕ) (bytes : List ℕ) (i : ℕ) → i < 8 → bit (byte ∷ bytes) i ≡ bit_at byte i
first-byte byte bytes i lt =
    let here : i / 8 ≡ 0 = omega arith in
    let place : i % 8 ≡ i = omega arith in
    ap (λ k. bit_at (get_or (byte ∷ bytes) k 0) (i % 8)) here ∙ ap (bit_at byte) place

next-byte : (byte : ℕ) (bytes : List ℕ) (i j : ℕ) → j ≡ 8 + i → bit (byte ∷ bytes) j ≡ bit bytes i
next-byte byte bytes i j e =
    let here : j / 8 ≡ suc (i / 8) = omega arith in
    let place : j % 8 ≡ i % 8 = omega arith in
    ap (λ k. bit_at (get_or (byte ∷ bytes) k 0) (j % 8)) here ∙ ap (bit_at (get_or bytes (i / 8) 0)) place

-- the bit at a place is the flag there
pub bits-of : (flags : List Bool) (i : ℕ) → i < length flags → bit (bit_bytes flags) i ≡ bit_value (get_or flags i false)
bits-of (a ∷ b ∷ c ∷ d ∷ e ∷ f ∷ g ∷ h ∷ flags) (suc (suc (suc (suc (suc (suc (suc (suc i)))))))) lt =
    next-byte _ (bit_bytes flags) i (suc (suc (suc (suc (suc (suc (suc (suc i)))))))) (omega arith) ∙ bits-of flags i (omega arith)
bits-of (a ∷ b ∷ c ∷ d ∷ e ∷ f ∷ g ∷ h ∷ flags) i lt =
    first-byte (byte_of (a ∷ b ∷ c ∷ d ∷ e ∷ f ∷ g ∷ h ∷ [])) (bit_bytes flags) i (omega arith) ∙ byte-bit (a ∷ b ∷ c ∷ d ∷ e ∷ f ∷ g ∷ h ∷ []) i (omega arith)
bits-of [] i lt = absurd (omega arith)
bits-of flags i lt = first-byte (byte_of flags) [] i (omega arith) ∙ byte-bit flags i lt

-- a byte for each eight flags and for those that are left
pub length-bit_bytes : (flags : List Bool) → length (bit_bytes flags) ≡ (length flags + 7) / 8
length-bit_bytes [] = refl
length-bit_bytes (a ∷ b ∷ c ∷ d ∷ e ∷ f ∷ g ∷ h ∷ flags) = omega (arith, length-bit_bytes flags)
length-bit_bytes flags = refl
