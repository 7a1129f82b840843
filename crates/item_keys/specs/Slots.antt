-- Where the number of a text is.
use Rattle.std.specs.Prelude.{ℕ, ◌+◌, ◌-◌, ◌/◌, ◌^◌, List, bit_and}
use Rattle.std.specs.Hash.DefaultHasher as sipping
use Rattle.std.specs.Hash.FoldHasher as folding

-- the upper half of the text's hash
abbrev pub hash_in : List ℕ → ℕ
hash_in text = folding.finish (folding.write folding.initial text) / 2 ^ 32

-- its second hash
abbrev pub second_hash_in : List ℕ → ℕ
second_hash_in text = sipping.finish (sipping.write sipping.initial text)

-- of this many slots, the one that comes this many steps behind the first one of a hash
abbrev pub slot_in : ℕ → ℕ → ℕ → ℕ
slot_in slots hash step = bit_and (hash + step) (slots - 1)
