-- The digits in a buffer's line.
use Rattle.std.specs.Prelude.{ℕ, Bool, ◌||◌, List, [], ◌∷◌}
use Rattle.std.specs.Int.{is_in_range}
use Rattle.tree_text.specs.promise.Standing.{AtArray, AtFirst, AtSchema, Place}

-- ---- a buffer's line: absent, or its bytes by pairs of lower-case digits

-- a digit, or a letter from a to f
abbrev pub is_lower_digit : ℕ → Bool
is_lower_digit c = is_in_range 48 57 c || is_in_range 97 102 c

-- what a text begins with
abbrev pub all_places : List Place
all_places = AtFirst ∷ AtSchema 1 ∷ AtArray 1 ∷ []
