-- Values that are read of an array, wherever they go.
use Rattle.std.specs.Prelude.{◌≡◌, ◌≢◌, ◌⊎◌, ◌<◌, ℕ, List, length, get_or}
use Rattle.data_types.specs.promise.Value.{Value, Null}
use Rattle.raw_array.specs.promise.Members.{ArrayTree}
use Rattle.data_types.specs.promise.KindTrees.{KindTree}
use Rattle.layout_rules.specs.promise.Values.{tree_items, value_at}

-- a value is an item of an array's window, or null
abbrev pub IsItemOf : KindTree → ArrayTree → Value → Type 0
IsItemOf typed array value = (value ≡ Null) ⊎ ((i : ℕ) × (i < tree_items array) × (value ≡ value_at typed array i))

-- no number is there twice
abbrev pub AreApart : List ℕ → Type 0
AreApart numbers = (i j : ℕ) → i < j → j < length numbers → get_or numbers i 0 ≢ get_or numbers j 0
