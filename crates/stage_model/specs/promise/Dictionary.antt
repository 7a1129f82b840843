-- The dictionary of values: the distinct ones that aren't null, in order of first appearance.
use Rattle.std.specs.Prelude.{ℕ, List, [], ◌∷◌, if◌then◌else◌}
use Rattle.std.specs.List.{list_any}
use Rattle.std.specs.Str.{bytes_eq}
use Rattle.data_types.specs.promise.Value.{Value, Bytes}

-- the values that are in none of the texts before them
abbrev pub distinct_behind : List (List ℕ) → List Value → List Value
distinct_behind before [] = []
distinct_behind before (Bytes text ∷ values) =
    if list_any (λ t. bytes_eq t text) before then distinct_behind before values else Bytes text ∷ distinct_behind (text ∷ before) values
distinct_behind before (_ ∷ values) = distinct_behind before values

abbrev pub Dictionary : List Value → List Value
Dictionary values = distinct_behind [] values
