-- The blocks of a text that aren't read.
use Rattle.std.specs.Prelude.{◌≤◌, ◌++◌, ℕ, List, [], ◌∷◌, vec_len}
use Rattle.std.specs.Global.{Vec}

-- a block that has some bytes
abbrev pub IsFilled : Vec ℕ → Type 0
IsFilled block = 1 ≤ vec_len block

-- the bytes of blocks, the last one of which comes first
abbrev pub later_bytes : List (Vec ℕ) → List ℕ
later_bytes [] = []
later_bytes (block ∷ before) = later_bytes before ++ block.items
