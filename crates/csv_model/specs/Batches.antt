-- The chunks that the rows of a text make, under a mark for null.
use Rattle.std.specs.Prelude.{ℕ, List, ◌==◌, length}
use Rattle.data_types.specs.promise.Table.{Column, Row}
use Rattle.csv_model.specs.promise.Reading.{behind_header, records_of}
use Rattle.csv_model.specs.promise.Batches.{Chunks, batches_in, in_batches}
use Rattle.std.specs.List.{filter}

-- ---- reading

-- the rows of a text, under a mark for null
abbrev pub Batches : List ℕ → List ℕ → List Column → ℕ → Chunks
Batches mark bytes columns batch = batches_in mark columns (behind_header (records_of bytes)) batch

-- those of full size
abbrev pub whole_batches : ℕ → List Row → List (List Row)
whole_batches batch rows = filter (λ part. length part == batch) (in_batches batch rows)
