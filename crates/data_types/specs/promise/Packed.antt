-- Bits and numbers as the Arrow Columnar Format lays them out ("Validity bitmaps", "Byte order", "Fixed-size primitive
-- layout"): bit j is bit `j % 8` of byte `j / 8`, the least significant first, and a number's least significant byte
-- comes first.
use Rattle.std.specs.Prelude.{ℕ, zero, suc, ◌+◌, ◌-◌, ◌*◌, ◌/◌, ◌%◌, ◌^◌, ℤ, pos, negsuc, Bool, true, false, nat_lt, if◌then◌else◌, List, []}
use Rattle.std.specs.Prelude.{◌∷◌, slice_index, take, drop}
use Rattle.std.specs.Int.{bit_at}

-- ---- bits

-- the bit at a place, 0 or 1
abbrev pub bit : List ℕ → ℕ → ℕ
bit bytes j = bit_at (slice_index bytes (j / 8)) (j % 8)

-- ---- numbers

-- the number that these bytes are
abbrev pub le_number : List ℕ → ℕ
le_number [] = 0
le_number (b ∷ bs) = b + 256 * le_number bs

-- the bytes of a number, this many of them
abbrev pub le_bytes : ℕ → ℕ → List ℕ
le_bytes zero n = []
le_bytes (suc width) n = n % 256 ∷ le_bytes width (n / 256)

-- a stored number as it is meant: with a sign it is in two's complement
abbrev pub meant : ℕ → Bool → ℕ → ℤ
meant width false n = pos n
meant width true n = if nat_lt n (2 ^ (8 * width - 1)) then pos n else negsuc (2 ^ (8 * width) - 1 - n)

-- and a number as it is stored
abbrev pub stored : ℕ → ℤ → ℕ
stored width (pos n) = n
stored width (negsuc n) = 2 ^ (8 * width) - 1 - n

-- the number of this many bytes at a byte place
abbrev pub number_at : List ℕ → ℕ → ℕ → ℕ
number_at bytes at width = le_number (take width (drop at bytes))

-- the bytes of an offset ("Variable-size binary layout")
abbrev pub offset_width : Bool → ℕ
offset_width false = 4
offset_width true = 8
