-- Lines of values, each behind a number.
use Rattle.std.specs.Prelude.{ℕ, List, ◌++◌, codes, decimal}
use Rattle.std.specs.List.{flat_map}
use Rattle.data_types.specs.promise.Value.{Value}
use Rattle.data_types.specs.promise.ValueTexts.{value_line}

-- `ok`, and a line for each value: its number in decimal, a space, and its line
abbrev pub numbered_text : List (ℕ × Value) → List ℕ
numbered_text items = codes "ok\n" ++ flat_map (λ (item : ℕ × Value). decimal item.0 ++ (codes " " ++ value_line item.1)) items
