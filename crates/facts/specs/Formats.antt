-- Pairs of a key and a value.
use Rattle.std.specs.Prelude.{List, [], ◌∷◌, codes}
use Rattle.schema_meta.specs.declared.pair.Pair.{Pair}

abbrev pub one : List Pair
one = record { key = codes "key1"; value = codes "value1" } ∷ []

-- one key twice
abbrev pub more : List Pair
more = record { key = codes "k"; value = [] } ∷ record { key = codes "k"; value = codes "v" } ∷ []
