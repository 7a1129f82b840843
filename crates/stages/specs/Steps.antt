-- What a step makes of a chunk, and of the tables that are still to come.
use Rattle.std.specs.Prelude.{◌≡◌, ◌+◌, ℕ, Bool, true, IsTrue, List, [], ◌∷◌, map, Option, None, Some}
use Rattle.std.specs.List.{sum_by}
use Rattle.data_types.specs.ColumnView.{column_of}
use Rattle.data_types.specs.promise.Table.{Column, Row}
use Rattle.data_types.specs.declared.kind.ColumnType.{ColumnType}
use Rattle.data_types.specs.declared.row_fault.RowFault.{RowFault}
use Rattle.tree_model.specs.promise.TreeParts.{IsLive}
use Rattle.tree_model.specs.promise.TreeData.{Released}
use Rattle.raw_array.specs.promise.Members.{ArrayTree, Cost}
use Rattle.data_types.specs.promise.ColumnKinds.{type_of_columns}
use Rattle.data_types.specs.promise.KindTrees.{KindTree}
use Rattle.data_types.specs.KindTrees.{TypedOk}
use Rattle.unit_pass.specs.promise.Tally.{risen}
use Rattle.unit_pass.specs.Tally.{Tally}
use Rattle.stream_face.specs.Lawful.{IsChunkOf, LawfulColumns, LawfulTables}
use Rattle.stream_face.specs.Streams.{Stream, Traffic}

-- the tables that are still to be given, by how the stream below ends
abbrev pub Ahead : Type 0
Ahead = Option RowFault → List (List Row)

-- a chunk of these rows, the next of a lawful stream of these columns, behind which these tables come
pub record IsNext (before : List Column) (rows : List Row) (more : List (List Row)) (typed : KindTree) (chunk : ArrayTree) : Type 0 where
  pub columns : LawfulColumns before
  pub tables : LawfulTables before (rows ∷ more)
  pub typed_is : typed ≡ type_of_columns before
  pub types : TypedOk typed
  pub is : IsChunkOf before rows chunk
  pub live : IsLive chunk

-- the chunk is taken in and nothing is given for it: the same is still ahead, and no block or node was counted
pub record TakesIn (old new : Ahead) (can : Type 0) (before after : Tally) : Type 0 where
  pub ahead : (ending : Option RowFault) → old ending ≡ new ending
  pub takes : can
  pub blocks : after.blocks ≡ before.blocks
  pub nodes : after.nodes ≡ before.nodes

-- the next table that was ahead is given as a chunk, its blocks and nodes are counted, and nothing is held back
pub record GivesOut (columns : List Column) (own_blocks own_nodes : List Row → ℕ) (besides : List Row → ArrayTree → Type 0) (old new : Ahead) (idle : Bool)
    (before after : Tally) (chunk : ArrayTree) : Type 0 where
  pub rows : List Row
  pub ahead : (ending : Option RowFault) → old ending ≡ rows ∷ new ending
  pub is : IsChunkOf columns rows chunk
  pub live : IsLive chunk
  pub gives : besides rows chunk
  pub rests : IsTrue idle
  pub blocks : after.blocks ≡ risen before.blocks (own_blocks rows)
  pub nodes : after.nodes ≡ risen before.nodes (own_nodes rows)

-- what a call does with a chunk
abbrev pub Pushes : List Column → (List Row → ℕ) → (List Row → ℕ) → (List Row → ArrayTree → Type 0) → Ahead → Ahead → Type 0 → Bool → Tally → Tally
    → Option ArrayTree → Type 0
Pushes columns blocks nodes gives old new takes rests before after None = TakesIn old new takes before after
Pushes columns blocks nodes gives old new takes rests before after (Some chunk) = GivesOut columns blocks nodes gives old new rests before after chunk

-- nothing is left to be given at the end
pub record GivesNothing (old new : List (List Row)) (idle : Bool) (before after : Tally) : Type 0 where
  pub before_end : old ≡ []
  pub behind_end : new ≡ []
  pub rests : IsTrue idle
  pub blocks : after.blocks ≡ before.blocks
  pub nodes : after.nodes ≡ before.nodes

-- what a call does at the end of the stream below
abbrev pub Finishes : List Column → (List Row → ℕ) → (List Row → ℕ) → (List Row → ArrayTree → Type 0) → List (List Row) → List (List Row) → Bool
    → Tally → Tally → Option ArrayTree → Type 0
Finishes columns blocks nodes gives old new rests before after None = GivesNothing old new rests before after
Finishes columns blocks nodes gives old new rests before after (Some chunk) =
    GivesOut columns blocks nodes gives (λ _. old) (λ _. new) rests before after chunk

-- by whether something lies there: what is known where nothing does, and what of it where it does
pub record Turns (none : Type 0) (some : ArrayTree → Type 0) (out : ArrayTree) : Type 0 where
  pub nothing : out ≡ Released → none
  pub something : IsLive out → some out

-- the units of what is given
abbrev pub cost_given : Option ArrayTree → ℕ
cost_given None = 0
cost_given (Some chunk) = Cost chunk

-- what is due below it, and what it counts for the tables that it still gives
abbrev pub due_by : (List Row → ℕ) → (List Row → ℕ) → List (List Row) → Traffic → Traffic
due_by blocks nodes tables due = record { blocks = due.blocks + sum_by blocks tables; nodes = due.nodes + sum_by nodes tables }

-- ---- steps that hold nothing of the chunks that they took

abbrev pub always : {S : Type 0} → S → Bool
always step = true

abbrev pub any_tables : {S : Type 0} → S → List Column → List (List Row) → Type 0
any_tables step before tables = Unit {0}

-- a chunk has nothing besides its rows
abbrev pub rows_only : {S : Type 0} → S → List Row → ArrayTree → Type 0
rows_only step rows chunk = Unit {0}

-- ---- the stream below with a step

abbrev pub stepped : List ColumnType → (Option RowFault → List (List Row) → List (List Row)) → ℕ → Stream → Stream
stepped columns ahead link up = record up {
  columns = map column_of columns;
  ahead = ahead up.ending up.ahead;
  making = Some (record { link = link; makes = ahead up.ending });
}
