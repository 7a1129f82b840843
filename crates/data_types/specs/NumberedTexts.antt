-- The line of a value with its number.
use Rattle.std.specs.Prelude.{ℕ, List, ◌++◌, codes, decimal}
use Rattle.data_types.specs.promise.Value.{Value}
use Rattle.data_types.specs.promise.ValueTexts.{value_line}

-- the number in decimal, a space, and the value's line
abbrev pub numbered_line : ℕ × Value → List ℕ
numbered_line item = decimal item.0 ++ (codes " " ++ value_line item.1)
