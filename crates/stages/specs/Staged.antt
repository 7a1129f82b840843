-- What a stage means, from its step and from what the stream below it means.
use Rattle.std.specs.Prelude.{ℕ, Bool, if◌then◌else◌, List, map, Option, None, Some}
use Rattle.data_types.specs.ColumnView.{column_of}
use Rattle.data_types.specs.promise.Table.{Row}
use Rattle.data_types.specs.declared.kind.ColumnType.{ColumnType}
use Rattle.data_types.specs.declared.row_fault.RowFault.{RowFault}
use Rattle.stream_face.specs.Streams.{Stream}
use Rattle.stream_face.specs.Texts.{Refusal, wanting}
use Rattle.stages.specs.Steps.{due_by}
use Rattle.stages.specs.declared.stage.LastAnswer.{LastAnswer}
use Rattle.stages.specs.declared.stage.LastAnswer.TheVariants as word

-- who answered the last get call: the stage gave its schema, or ran out of memory, or the stream below it answered
abbrev pub word_said : LastAnswer → Option Refusal → Option Refusal
word_said word.Nothing said = None
word_said word.Memory said = Some wanting
word_said word.Upstream said = said

-- what the stage holds, shows and is refused for is the stream's below it, of whose link's tables it makes its own, but for memory that runs out in the stage itself
abbrev pub staged : {S : Type 0} → (S → List ColumnType) → (S → Option RowFault → List (List Row) → List (List Row)) → (S → List Row → ℕ)
    → (S → List Row → ℕ) → ℕ → S → Bool → LastAnswer → Stream → Stream
staged columns ahead blocks nodes link step no_memory last up = record up {
  columns = map column_of (columns step);
  ahead = ahead step up.ending up.ahead;
  making = Some (record { link = link; makes = ahead step up.ending });
  due = due_by (blocks step) (nodes step) (ahead step up.ending up.ahead) up.due;
  schema = None;
  chunk = None;
  gave = None;
  failure = if no_memory then Some wanting else up.failure;
  fault = if no_memory then None else up.fault;
  said = word_said last up.said;
}
