-- The parts of a decimal's text.
use Rattle.std.specs.Prelude.{ℕ, ◌^◌, ◌≤◌, nat_le, nat_lt, ◌==◌, ◌&&◌, if◌then◌else◌, List, [], ◌∷◌, length, Option, None, Some}

-- what may be the digits behind a point: 1 to this many bytes
abbrev pub fraction_text : ℕ → List ℕ → Option (List ℕ)
fraction_text most [] = Some []
fraction_text most (c ∷ digits) = if (c == 46) && nat_lt 0 (length digits) && nat_le (length digits) most then Some digits else None

-- no number, or one of more digits than a decimal has
abbrev pub IsPastDecimals : Option ℕ → Type 0
IsPastDecimals None = Unit {0}
IsPastDecimals (Some n) = 10 ^ 38 ≤ n
