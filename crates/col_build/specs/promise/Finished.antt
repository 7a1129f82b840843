-- What a finished column is made of.
use Rattle.std.specs.Prelude.{ℕ, ◌+◌, List, [], ◌∷◌, Option, None, Some}
use Rattle.data_types.specs.promise.Value.{Value}
use Rattle.data_types.specs.declared.kind.DataType.{DataType}
use Rattle.col_build.specs.promise.Encoding.{encoded}

-- how many buffers are there
abbrev pub present_count : List (Option (List ℕ)) → ℕ
present_count [] = 0
present_count (None ∷ buffers) = present_count buffers
present_count (Some bytes ∷ buffers) = 1 + present_count buffers

-- how many blocks the encoding of a column is made of
abbrev pub blocks_of : DataType → List Value → ℕ
blocks_of kind values = present_count (encoded kind values).buffers
