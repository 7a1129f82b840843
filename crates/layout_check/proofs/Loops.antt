-- The number of a loop, within it and at its end.
use Rattle.std.proofs.Common.{◌≡◌, ℕ, ◌<◌, ◌≤◌, arith}

pub below_within : (i n m : ℕ) → i < n → n ≤ m → i < m
below_within i n m l k = omega (arith, l, k)

pub at_last : (i n : ℕ) → n ≤ i → i ≤ n → i ≡ n
at_last i n l k = omega (arith, l, k)
