-- Columns with two rows, and what is seen of links.
use Rattle.std.specs.Prelude.{ℕ, pos, true, false, List, [], ◌∷◌, Some, codes}
use Rattle.data_types.specs.declared.kind.DataType.TheVariants as kinds
use Rattle.data_types.specs.promise.Table.{Column, Flat, Dict, Row}
use Rattle.data_types.specs.promise.Value.{Whole, Bytes}
use Rattle.stream_face.specs.promise.Shown.{Seen, Shown, shown_table}

-- numbers, and texts with a dictionary
abbrev pub two_columns : List Column
two_columns = record { name = codes "n"; kind = Flat (kinds.Int 64 true) } ∷ record { name = codes "k"; kind = Dict (kinds.Utf8 false) } ∷ []

abbrev pub row : ℕ → Row
row k = Whole (pos k) ∷ Bytes (codes "x") ∷ []

-- a chunk of one row
abbrev pub shown : ℕ → Shown
shown k = shown_table two_columns (row k ∷ [])

-- of link 0 the rows 1 and 2, each in a chunk of its own, and of link 1 the row 2 between them and behind
abbrev pub seen : List Seen
seen = record { link = 0; shown = shown 1 } ∷ record { link = 0; shown = shown 2 } ∷ record { link = 1; shown = shown 2 } ∷ []
