-- Numbers that are those of items, and items of a struct that aren't null.
use Rattle.std.specs.Prelude.{ℕ, ◌<◌, List, get_or, length, ◌+◌, [], ◌∷◌, ◌++◌, drop, take}
use Rattle.data_types.specs.promise.Value.{Value, Fields, Null, values}
use Rattle.std.specs.List.{flat_map}
use Rattle.data_types.specs.promise.ColumnView.{members}
use Rattle.data_types.specs.promise.Table.{Column, Columns, Members, Row}
use Rattle.data_types.specs.promise.Parts.{fields_of, member_columns, picked}

-- each is the number of one of this many items
abbrev pub AreWithin : ℕ → List ℕ → Type 0
AreWithin count picks = (k : ℕ) → k < length picks → get_or picks k 0 < count

-- ---- rows

-- an item of a struct that isn't null
abbrev pub IsFields : Value → Type 0
IsFields (Fields vs) = Unit {0}
IsFields _ = ⊥

-- the rows of chunks, one chunk behind the other
abbrev pub joined_rows : List (List Row) → List Row
joined_rows chunks = flat_map (λ rows. rows) chunks

-- some values of a row, and behind them a struct of others
abbrev pub packed : List ℕ → List ℕ → Row → Row
packed rest picks row = picked Null rest row ++ Fields (values (picked Null picks row)) ∷ []

-- a struct's values in its place
abbrev pub unpacked : ℕ → Row → Row
unpacked place row = take place row ++ fields_of (get_or row place Null) ++ drop (place + 1) row

-- some columns, and behind them a struct of others
abbrev pub packed_columns : Column → List ℕ → List ℕ → List ℕ → List Column → List Column
packed_columns none name rest picks columns = picked none rest columns ++ record { name = name; kind = Columns (members (picked none picks columns)) } ∷ []

-- the columns of a struct in its place
abbrev pub unpacked_columns : ℕ → Members → List Column → List Column
unpacked_columns place fields columns = take place columns ++ member_columns fields ++ drop (place + 1) columns
