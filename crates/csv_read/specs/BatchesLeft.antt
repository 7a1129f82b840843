-- A text whose rows are read in batches: what is left of it, and what the next batch is.
use Rattle.std.specs.Prelude.{◌≡◌, ◌≤◌, ◌+◌, ◌^◌, ℕ, List, [], ◌∷◌, length, map, take, drop, Ok}
use Rattle.col_build.specs.declared.builder.Builder.{Builder}
use Rattle.data_types.specs.ColumnView.{column_of}
use Rattle.data_types.specs.promise.Table.{Column, Row}
use Rattle.data_types.specs.declared.kind.ColumnType.{ColumnType}
use Rattle.csv_model.specs.promise.Batches.{Chunks, batches_if, rows_before}
use Rattle.csv_model.specs.promise.Reading.{Record, body_from}
use Rattle.csv_read.specs.BodyRows.{IsRowsFault}
use Rattle.csv_read.specs.Body.{HoldRows}
use Rattle.csv_read.specs.declared.body.BodyFault.{BodyFault}

-- what contracts see of a text that is read in batches
pub record BatchesLeft : Type 0 where
  pub columns : List ColumnType
  pub mark : List ℕ
  -- how many records behind the header were read
  pub read : ℕ
  -- those that were not
  pub records : List Record
  -- the builders of the columns; there are none before the first batch and behind the last one
  pub builders : List Builder

abbrev pub columns_in : BatchesLeft → List Column
columns_in s = map column_of s.columns

-- before the first batch of these records behind the header
abbrev pub all_left : List Record → List ColumnType → List ℕ → BatchesLeft
all_left records columns mark = record { columns = columns; mark = mark; read = 0; records = records; builders = [] }

-- no record is left, and no builder
abbrev pub at_end : BatchesLeft → BatchesLeft
at_end s = record { columns = s.columns; mark = s.mark; read = s.read; records = []; builders = [] }

-- the same with these builders
abbrev pub with_builders : List Builder → BatchesLeft → BatchesLeft
with_builders builders s = record { columns = s.columns; mark = s.mark; read = s.read; records = s.records; builders = builders }

-- the builders hold the rows of the next records, this many or all that are left; they were read, and the others are left
pub record IsNextBatch (batch : ℕ) (builders : List Builder) (old new : BatchesLeft) : Type 0 where
  pub rows : List Row
  pub spelled : body_from old.mark (old.read + 1) (columns_in old) (take batch old.records) ≡ Ok rows
  pub some : 1 ≤ length rows
  pub few : length rows ≤ 2 ^ 30
  pub held : HoldRows builders (columns_in old) rows
  pub read : new.read ≡ old.read + length rows
  pub left : new.records ≡ drop batch old.records

-- the fault is that of the first of the next records, this many or all that are left, that spells no row, by its number behind
-- the header; out of memory says nothing of them
abbrev pub IsNextFault : BodyFault → ℕ → BatchesLeft → Type 0
IsNextFault fault batch s = IsRowsFault fault (body_from s.mark (s.read + 1) (columns_in s) (take batch s.records))

-- the batches of the records that are left
abbrev pub batches_left : ℕ → BatchesLeft → Chunks
batches_left batch s = batches_if (body_from s.mark (s.read + 1) (columns_in s) s.records) batch (rows_before s.mark (s.read + 1) (columns_in s) s.records)

-- the batches behind a first one
abbrev pub behind : List Row → Chunks → Chunks
behind rows others = record { chunks = rows ∷ others.chunks; ending = others.ending }

-- the rows of the first batch, and none where there is no batch
abbrev pub first_rows : List (List Row) → List Row
first_rows [] = []
first_rows (rows ∷ others) = rows

abbrev pub next_rows : ℕ → BatchesLeft → List Row
next_rows batch s = first_rows (batches_left batch s).chunks
