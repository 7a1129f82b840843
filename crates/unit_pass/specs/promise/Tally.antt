-- Counts that rise and stay at their last value.
use Rattle.std.specs.Prelude.{ℕ, ◌+◌, ◌-◌, ◌^◌, min}

-- the last value of a count
abbrev pub last_count : ℕ
last_count = 2 ^ 64 - 1

-- a count that rises by m and stays at its last value
abbrev pub risen : ℕ → ℕ → ℕ
risen n m = min (n + m) last_count
