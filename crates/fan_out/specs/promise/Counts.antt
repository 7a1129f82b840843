-- How many workers there may be.
use Rattle.std.specs.Prelude.{ℕ}

-- the most workers that share the rows of a chunk
abbrev pub most_workers : ℕ
most_workers = 64
