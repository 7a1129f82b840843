-- Values as runs ("Arrow Columnar Format", "Run-End Encoded Layout"), and the schema and the array of such runs.
use Rattle.std.specs.Prelude.{ℕ, suc, if◌then◌else◌, List, [], ◌∷◌}
use Rattle.data_types.specs.promise.Groups.{same}
use Rattle.data_types.specs.promise.Value.{Value}

-- a run: its value, and the place behind its last item
pub record Run : Type 0 where
  pub value : Value
  pub stop : ℕ

-- The runs of values from a place on: a value ends a run where the next one isn't the same, or none is there. Floats are the same
-- by their bits, and a null is the same as any null.
abbrev pub runs_from : ℕ → List Value → List Run
runs_from at [] = []
runs_from at (value ∷ []) = record { value = value; stop = suc at } ∷ []
runs_from at (value ∷ next ∷ rest) =
    if same value next then runs_from (suc at) (next ∷ rest) else record { value = value; stop = suc at } ∷ runs_from (suc at) (next ∷ rest)
