-- Whether one of texts is a text.
use Rattle.std.specs.Prelude.{ℕ, Bool, List}
use Rattle.std.specs.List.{list_any}
use Rattle.std.specs.Str.{bytes_eq}

-- whether one of these texts is this one
abbrev pub has_bytes : List (List ℕ) → List ℕ → Bool
has_bytes texts text = list_any (λ t. bytes_eq t text) texts
