-- What a stage makes of a table, and of the chunks of a stream.
use Rattle.std.specs.Prelude.{ℕ, ◌+◌, ℤ, pos, ◌+ℤ◌, int_lt, Bool, not, ◌&&◌, nat_lt, nat_le, List, [], ◌∷◌, get_or, length, map, Option, None, Some, ◌++◌, drop, take}
use Rattle.std.specs.Prelude.{if◌then◌else◌}
use Rattle.std.specs.List.{filter, filter_map, flat_map, fold}
use Rattle.std.specs.Cmp.Lexicographic.{slice_cmp}
use Rattle.std.specs.declared.cmp.Ordering.{Ordering}
use Rattle.std.specs.Ordering.{bool_cmp, int_cmp, nat_cmp, is_eq, is_ne, is_lt, is_le, is_gt, is_ge, is_some_and}
use Rattle.csv_model.specs.promise.Batches.{Chunks}
use Rattle.data_types.specs.promise.Parts.{column_values, picked, fields_of}
use Rattle.data_types.specs.promise.Table.{Column, Row, Table}
use Rattle.data_types.specs.promise.Value.{Value, Null, Truth, Whole, Bytes, is_null, Fields, values}
use Rattle.data_types.specs.declared.row_fault.RowFault.{RowFault}
use Rattle.stage_model.specs.promise.Typing.{Stage}
use Rattle.stage_model.specs.declared.stage.Const.{Const}
use Rattle.stage_model.specs.declared.stage.Const.TheVariants as consts
use Rattle.stage_model.specs.declared.stage.Step.{Step}
use Rattle.stage_model.specs.declared.stage.Step.TheVariants as steps
use Rattle.stage_model.specs.declared.stage.Test.{Test}
use Rattle.stage_model.specs.declared.stage.Test.TheVariants as tests

-- ---- slice

-- the rows whose number is in the window, where they are numbered from `number` on
abbrev pub sliced : ℕ → ℕ → ℕ → List Row → List Row
sliced off len number [] = []
sliced off len number (row ∷ rows) =
    if nat_le off number && nat_lt number (off + len) then row ∷ sliced off len (number + 1) rows else sliced off len (number + 1) rows

-- ---- filter

-- how a value compares to a constant: numbers as numbers, false below true, texts and bytes by their bytes; a null in no way
abbrev pub compared : Value → Const → Option Ordering
compared (Truth truth) (consts.Truth constant) = Some (bool_cmp truth constant)
compared (Whole number) (consts.Whole constant) = Some (int_cmp number constant)
compared (Bytes bytes) (consts.Bytes constant) = Some (slice_cmp nat_cmp bytes constant)
compared _ _ = None

-- a null passes no comparison
abbrev pub passes : Test → Const → Value → Bool
passes tests.Eq constant value = is_some_and is_eq (compared value constant)
passes tests.Ne constant value = is_some_and is_ne (compared value constant)
passes tests.Lt constant value = is_some_and is_lt (compared value constant)
passes tests.Le constant value = is_some_and is_le (compared value constant)
passes tests.Gt constant value = is_some_and is_gt (compared value constant)
passes tests.Ge constant value = is_some_and is_ge (compared value constant)
passes tests.Null constant value = is_null value
passes tests.Valid constant value = not (is_null value)

-- ---- totals

abbrev pub number_if : Value → Option ℤ
number_if (Whole number) = Some number
number_if _ = None

-- the number that a choice keeps of them all, and null where there is none
abbrev pub extreme : (ℤ → ℤ → ℤ) → List ℤ → Value
extreme choice [] = Null
extreme choice (number ∷ numbers) = Whole (fold choice number numbers)

-- of the numbers of a column: how many, their sum, the least and the greatest
abbrev pub totals_values : List ℤ → List Value
totals_values numbers =
    Whole (pos (length numbers)) ∷ Whole (fold ◌+ℤ◌ (pos 0) numbers) ∷ extreme (λ a b. if int_lt b a then b else a) numbers ∷ extreme (λ a b. if int_lt a b then b else a) numbers ∷ []

-- ---- a table

-- the rows after a step
abbrev pub rows_after : Step → List Row → List Row
rows_after (steps.Select picks) rows = map (picked Null picks) rows
rows_after (steps.Slice off len) rows = sliced off len 0 rows
rows_after (steps.Filter column test constant) rows = filter (λ row. passes test constant (get_or row column Null)) rows
rows_after (steps.Pack rest picks) rows = map (λ row. picked Null rest row ++ Fields (values (picked Null picks row)) ∷ []) rows
rows_after (steps.Unpack column) rows = map (λ row. take column row ++ fields_of (get_or row column Null) ++ drop (column + 1) row) rows
rows_after (steps.Dict column) rows = rows
rows_after (steps.Plain column) rows = rows
rows_after (steps.Totals columns) rows = flat_map (λ place. totals_values (filter_map number_if (column_values place rows))) columns ∷ []

abbrev pub table : List Column → List Row → Table
table columns rows = record { columns = columns; rows = rows }

-- the table after a stage
abbrev pub TableStage : Stage → Table → Table
TableStage stage before = table stage.columns (rows_after stage.step before.rows)

-- ---- chunks

-- a chunk before others, unless it has no rows
abbrev pub unless_empty : List Row → List (List Row) → List (List Row)
unless_empty [] chunks = chunks
unless_empty (row ∷ rows) chunks = (row ∷ rows) ∷ chunks

-- rows are numbered on over all chunks, and a chunk without rows isn't given
abbrev pub sliced_chunks : ℕ → ℕ → ℕ → List (List Row) → List (List Row)
sliced_chunks off len number [] = []
sliced_chunks off len number (rows ∷ chunks) = unless_empty (sliced off len number rows) (sliced_chunks off len (number + length rows) chunks)

-- one chunk of all rows, where they are all there
abbrev pub at_end : Option RowFault → List Row → List (List Row)
at_end None rows = rows ∷ []
at_end (Some fault) rows = []

-- the chunks after a step, by how those before it end
abbrev pub chunks_after : Step → Option RowFault → List (List Row) → List (List Row)
chunks_after (steps.Slice off len) ending chunks = sliced_chunks off len 0 chunks
chunks_after (steps.Totals columns) ending chunks = at_end ending (rows_after (steps.Totals columns) (flat_map (λ rows. rows) chunks))
chunks_after step ending chunks = map (rows_after step) chunks

-- the chunks after a step: the ending is passed on
abbrev pub ChunkStage : Step → Chunks → Chunks
ChunkStage step before = record { chunks = chunks_after step before.ending before.chunks; ending = before.ending }
