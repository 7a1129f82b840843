-- The rows of a text in batches: chunks of at most this many rows, and how they end.
use Rattle.std.specs.Prelude.{ℕ, ◌+◌, ◌-◌, ◌==◌, List, [], ◌∷◌, length, Option, None, Some, Result, Ok, Err, if◌then◌else◌}
use Rattle.std.specs.List.{filter, onto_first}
use Rattle.data_types.specs.promise.Table.{Column, Row}
use Rattle.csv_model.specs.promise.Reading.{Record, body, row_of}
use Rattle.data_types.specs.declared.row_fault.RowFault.{RowFault}

-- the rows of chunks, one behind the other, and how they end: by a fault, or well
pub record Chunks : Type 0 where
  pub chunks : List (List Row)
  pub ending : Option RowFault

-- ---- cutting

-- the rows in batches of this many, where the first batch still takes `room` rows; the last may be smaller
abbrev pub cut : ℕ → ℕ → List Row → List (List Row)
cut batch room [] = []
cut batch room (row ∷ rows) = if room == 1 then (row ∷ []) ∷ cut batch batch rows else onto_first row (cut batch (room - 1) rows)

abbrev pub in_batches : ℕ → List Row → List (List Row)
in_batches batch rows = cut batch batch rows

-- ---- reading

abbrev pub row_before : Result Row RowFault → List Row → List Row
row_before (Ok values) rows = values ∷ rows
row_before (Err fault) rows = []

-- the rows of the records before the first one that spells none
abbrev pub rows_before : List ℕ → ℕ → List Column → List Record → List Row
rows_before mark number columns [] = []
rows_before mark number columns (fields ∷ records) = row_before (row_of mark number columns fields) (rows_before mark (number + 1) columns records)

-- all rows in batches; or, where a record spells no row, the full batches before the batch of that record
abbrev pub batches_if : Result (List Row) RowFault → ℕ → List Row → Chunks
batches_if (Ok rows) batch before = record { chunks = in_batches batch rows; ending = None }
batches_if (Err fault) batch before = record { chunks = filter (λ part. length part == batch) (in_batches batch before); ending = Some fault }

-- the rows of these records
abbrev pub batches_in : List ℕ → List Column → List Record → ℕ → Chunks
batches_in mark columns records batch = batches_if (body mark columns records) batch (rows_before mark 1 columns records)
