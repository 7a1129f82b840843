-- How many of some bits are clear, and which numbers fit into how many bytes.
use Rattle.std.specs.Prelude.{◌≡◌, ◌⊎◌, ℕ, zero, suc, ◌+◌, ◌-◌, ◌*◌, ◌^◌, ◌<◌, ℤ, pos, negsuc, List}
use Rattle.data_types.specs.promise.Packed.{bit}

-- ---- bits

-- how many of the len bits from `first` on are clear
abbrev pub clear_count : List ℕ → ℕ → ℕ → ℕ
clear_count bytes first zero = 0
clear_count bytes first (suc len) = clear_count bytes first len + (1 - bit bytes (first + len))

-- ---- numbers

-- the bytes that a number may have
abbrev pub IsWidth : ℕ → Type 0
IsWidth width = (width ≡ 1) ⊎ (width ≡ 2) ⊎ (width ≡ 4) ⊎ (width ≡ 8) ⊎ (width ≡ 16)

-- it fits with a sign
abbrev pub FitsSignedWidth : ℕ → ℤ → Type 0
FitsSignedWidth width (pos n) = n < 2 ^ (8 * width - 1)
FitsSignedWidth width (negsuc n) = n < 2 ^ (8 * width - 1)

-- it fits with a sign or without
abbrev pub FitsWidth : ℕ → ℤ → Type 0
FitsWidth width (pos n) = n < 2 ^ (8 * width)
FitsWidth width (negsuc n) = n < 2 ^ (8 * width - 1)
