-- What a stage means.
use Rattle.std.specs.Prelude.{ℕ, List, Option}
use Rattle.data_types.specs.promise.Table.{Row}
use Rattle.data_types.specs.declared.kind.ColumnType.{ColumnType}
use Rattle.data_types.specs.declared.row_fault.RowFault.{RowFault}
use Rattle.raw_array.specs.promise.Members.{ArrayTree}
use Rattle.stream_face.specs.Meaning.{meaning, raw_link}
use Rattle.stream_face.specs.Streams.{Stream}
use Rattle.stages.specs.Staged.{staged}
use Rattle.stages.specs.declared.stage.Stage.{Stage}

abbrev pub stage_state : {U S : Type 0} {ub sb : _} → (U → Stream) → (S → List ColumnType) → (S → Option RowFault → List (List Row) → List (List Row))
    → (S → List Row → ℕ) → (S → List Row → ℕ) → Stage U S ub sb → Stream
stage_state state columns ahead blocks nodes s = staged columns ahead blocks nodes (raw_link s.up) s.step s.no_memory s.word (meaning state s.up)

-- what a chunk of these rows that it gives has besides them, by its step
abbrev pub stage_gives : {U S : Type 0} {ub sb : _} → (S → List Row → ArrayTree → Type 0) → Stage U S ub sb → List Row → ArrayTree → Type 0
stage_gives gives s = gives s.step
