-- What each call of a stream answers, shows and counts ("The Arrow C Stream Interface", "The ArrowArrayStream structure").
use Rattle.std.specs.Prelude.{◌≡◌, ◌≢◌, ◌⊎◌, ◌+◌, ◌≤ℤ◌, ◌++◌, ℕ, ℤ, pos, List, [], ◌∷◌, Option, Some, None}
use Rattle.data_types.specs.declared.row_fault.RowFault.{RowFault}
use Rattle.data_types.specs.promise.Table.{Column, Row}
use Rattle.tree_model.specs.promise.TreeData.{Released}
use Rattle.tree_model.specs.promise.TreeParts.{IsLive}
use Rattle.raw_array.specs.promise.Members.{ArrayTree}
use Rattle.raw_schema.specs.promise.Members.{SchemaTree}
use Rattle.tree_model.specs.promise.TreeCost.{Nodes}
use Rattle.unit_pass.specs.promise.Tally.{risen}
use Rattle.unit_pass.specs.Tally.{Tally}
use Rattle.schema_check.specs.promise.ColumnSchema.{SchemaOf}
use Rattle.stream_face.specs.Codes.{einval, enomem}
use Rattle.stream_face.specs.Lawful.{IsChunkOf}
use Rattle.stream_face.specs.promise.Shown.{Seen, Shown, grown, of_link, rows_of_link, rows_shown}
use Rattle.stream_face.specs.promise.Streams.{Making}
use Rattle.stream_face.specs.Streams.{Stream, Traffic}
use Rattle.stream_face.specs.Texts.{Refusal, refused_row, wanting}
use Rattle.stream_face.specs.promise.Calls.{Begins, IsMade}

-- ---- any stream

-- 0, or an error's number
abbrev pub IsCode : ℤ → Type 0
IsCode code = (pos 0 ≤ℤ code) × (code ≤ℤ pos 4095)

-- it is 0 and there is no refusal, or it isn't, and the refusal has it
abbrev pub Tells : ℤ → Option Refusal → Type 0
Tells code None = code ≡ pos 0
Tells code (Some refusal) = (code ≡ refusal.code) × (code ≢ pos 0)

-- what is given is the one that is known, where one is
abbrev pub IsTold : {A : Type 0} → Option A → A → Type 0
IsTold None given = Unit {0}
IsTold (Some told) given = given ≡ told

-- a record is at fault only after the code EINVAL, and is the one at which the stream ends
abbrev pub IsRowFault : ℤ → Option RowFault → Option RowFault → Type 0
IsRowFault code ending None = Unit {0}
IsRowFault code ending (Some fault) = (code ≡ einval) × (ending ≡ Some fault)

-- a stream that has refused answers the same again, and shows and counts nothing
pub record Repeats (old new : Stream) (code : ℤ) (before after : Tally) (seen shown : Option (List Seen)) : Type 0 where
  pub same : (refusal : Refusal) → old.failure ≡ Some refusal → (code ≡ refusal.code) × (new.said ≡ Some refusal) × (new.fault ≡ old.fault)
  pub counts : (refusal : Refusal) → old.failure ≡ Some refusal → after ≡ before
  pub shows : (refusal : Refusal) → old.failure ≡ Some refusal → shown ≡ seen

-- ---- a lawful stream

-- it gives the schema of its columns and counts its nodes, or wants memory
pub record SchemaAnswer (columns : List Column) (code : ℤ) (out : SchemaTree) (said : Option Refusal) (before after : Tally) : Type 0 where
  pub given : code ≡ pos 0 → out ≡ SchemaOf columns
  pub blocks : code ≡ pos 0 → after.blocks ≡ before.blocks
  pub nodes : code ≡ pos 0 → after.nodes ≡ risen before.nodes (Nodes (SchemaOf columns))
  pub wants : code ≢ pos 0 → said ≡ Some wanting

-- it gives the next table, or comes to its end, or to its bad record, or runs out of memory
pub record Answers (old new : Stream) (code : ℤ) (out : ArrayTree) : Type 0 where
  pub chunk : IsLive out → (rows : List Row) × (old.ahead ≡ rows ∷ new.ahead) × IsChunkOf old.columns rows out
  pub finish : code ≡ pos 0 → out ≡ Released → (old.ahead ≡ []) × (new.ahead ≡ []) × (old.ending ≡ None)
  pub bad : code ≡ einval
      → (old.ahead ≡ []) × (new.ahead ≡ []) × (fault : RowFault) × (old.ending ≡ Some fault) × (new.fault ≡ Some fault) × (new.said ≡ Some (refused_row fault))
  pub wants : code ≡ enomem → new.said ≡ Some wanting
  pub codes : (code ≡ pos 0) ⊎ (code ≡ enomem) ⊎ (code ≡ einval)

-- what a call shows: a prefix of each link's tables, which then leaves them, unless memory ran out; and all that was left where nothing
-- is given: at the end, and at a record that is refused
pub record Shows (old new : ℕ → List Shown) (code : ℤ) (out : ArrayTree) (before after : Option (List Seen)) : Type 0 where
  pub shown : List Seen
  pub told : after ≡ grown before shown
  pub begins : (link : ℕ) → Begins (of_link link shown) (old link)
  pub leaves : code ≢ enomem → (link : ℕ) → old link ≡ of_link link shown ++ new link
  pub ends : code ≢ enomem → out ≡ Released → (link : ℕ) → new link ≡ []

-- how tables are made after these were seen, of which those that are given were made: of the first ones of those that are left
abbrev pub GoesOn : Option Making → Option Making → (ℕ → List Shown) → List Seen → List (List Row) → Type 0
GoesOn None after left seen given = after ≡ None
GoesOn (Some making) None left seen given = ⊥
GoesOn (Some making) (Some after) left seen given = (after.link ≡ making.link) × ((more : List (List Row)) → Begins more (rows_shown (left making.link))
    → making.makes (rows_of_link making.link seen ++ more) ≡ given ++ after.makes more)

-- each chunk is shown after all that it is made of: at each moment of the call no more was seen of a link than what is made of what was seen
-- of the one before it
pub record InOrder (old new : Stream) (code : ℤ) (shown : List Seen) : Type 0 where
  pub made : (first rest : List Seen) → shown ≡ first ++ rest → (link : ℕ) → IsMade (old.makings link) link first
  pub goes_on : code ≢ enomem → (link : ℕ) → GoesOn (old.makings link) (new.makings link) new.joints shown (rows_of_link link shown)
  pub gives : code ≢ enomem → (given : List (List Row)) → old.ahead ≡ given ++ new.ahead → GoesOn old.making new.making new.joints shown given

-- what a call shows, in this order
pub record ShowsInOrder (old new : Stream) (code : ℤ) (out : ArrayTree) (before after : Option (List Seen)) : Type 0 where
  pub shows : Shows old.joints new.joints code out before after
  pub order : InOrder old new code shows.shown

-- what a call counts: so much less is due, and nothing where nothing is given: at the end, and at a record that is refused
pub record Counts (old new : Traffic) (before after : Tally) (out : ArrayTree) : Type 0 where
  pub made : Traffic
  pub blocks : after.blocks ≡ risen before.blocks made.blocks
  pub nodes : after.nodes ≡ risen before.nodes made.nodes
  pub fewer_blocks : old.blocks ≡ made.blocks + new.blocks
  pub fewer_nodes : old.nodes ≡ made.nodes + new.nodes
  pub no_blocks : out ≡ Released → new.blocks ≡ 0
  pub no_nodes : out ≡ Released → new.nodes ≡ 0
