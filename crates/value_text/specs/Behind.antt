-- The parts of a list or a struct one by one.
use Rattle.std.specs.Prelude.{ℕ, zero, suc, List, ◌∷◌}
use Rattle.data_types.specs.promise.Value.{Value}
use Rattle.data_types.specs.promise.ValueTexts.{value_text}

-- the text of the part of this number, behind a comma unless it is the first
abbrev pub item_text : ℕ → Value → List ℕ
item_text zero value = value_text value
item_text (suc number) value = 44 ∷ value_text value
