-- What comes out of the last stage; and that chunks of any size give the rows of the whole table.
use Rattle.std.specs.Prelude.{◌≡◌, ℕ, List, [], ◌∷◌, None, Ok}
use Rattle.csv_model.specs.promise.Batches.{Chunks, batches_in}
use Rattle.csv_model.specs.promise.Reading.{Record, body}
use Rattle.data_types.specs.Parts.{joined_rows}
use Rattle.data_types.specs.promise.Table.{Column, Row}
use Rattle.stage_model.specs.promise.Stages.{ChunkStage, table}
use Rattle.stage_model.specs.promise.Typing.{Stage}
use Rattle.stage_model.specs.promise.Links.{Whole}

-- what comes out of the last stage, and its columns
abbrev pub last_chunks : Chunks → List Stage → Chunks
last_chunks source [] = source
last_chunks source (stage ∷ stages) = last_chunks (ChunkStage stage.step source) stages

abbrev pub last_columns : List Column → List Stage → List Column
last_columns columns [] = columns
last_columns columns (stage ∷ stages) = last_columns stage.columns stages

-- where a source ends well, the rows that come out are those of the whole table
abbrev pub ChunksGiveTheWhole : Type 0
ChunksGiveTheWhole = (columns : List Column) (source : Chunks) (stages : List Stage) → source.ending ≡ None →
    joined_rows (last_chunks source stages).chunks ≡ (Whole (table columns (joined_rows source.chunks)) stages).rows

-- where no record is refused, the rows that come out over batches of any size are those of the whole table of all rows
abbrev pub BatchesGiveTheWhole : Type 0
BatchesGiveTheWhole = (mark : List ℕ) (columns : List Column) (records : List Record) (batch : ℕ) (stages : List Stage) (rows : List Row) →
    body mark columns records ≡ Ok rows →
    joined_rows (last_chunks (batches_in mark columns records batch) stages).chunks ≡ (Whole (table columns rows) stages).rows
