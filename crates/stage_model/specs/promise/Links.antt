-- The links of a chain of stages, and the whole table that knows nothing of chunks.
use Rattle.std.specs.Prelude.{List, [], ◌∷◌, Option, None, Some}
use Rattle.csv_model.specs.promise.Batches.{Chunks}
use Rattle.data_types.specs.promise.Table.{Column, Row, Table}
use Rattle.stage_model.specs.promise.Stages.{ChunkStage, TableStage, table}
use Rattle.stage_model.specs.promise.Typing.{Stage}
use Rattle.stage_model.specs.declared.stage.Step.{Step}

-- a link: the step that made it, or none where it is the source; its columns; and the rows of its chunks
pub record Link : Type 0 where
  pub maker : Option Step
  pub columns : List Column
  pub chunks : List (List Row)

-- each stage makes a link of the one before it
abbrev pub links_behind : Chunks → List Stage → List Link
links_behind before [] = []
links_behind before (stage ∷ stages) =
    record { maker = Some stage.step; columns = stage.columns; chunks = (ChunkStage stage.step before).chunks }
    ∷ links_behind (ChunkStage stage.step before) stages

-- all links, from the source on
abbrev pub Links : List Column → Chunks → List Stage → List Link
Links columns source stages = record { maker = None; columns = columns; chunks = source.chunks } ∷ links_behind source stages

-- the table after all stages
abbrev pub Whole : Table → List Stage → Table
Whole start [] = start
Whole start (stage ∷ stages) = Whole (TableStage stage start) stages
