-- What a stream of chunks is, and what its calls keep of it ("The Arrow C Stream Interface").
use Rattle.std.specs.Prelude.{◌≡◌, ℕ, Bool, true, false, if◌then◌else◌, List, [], ◌∷◌, Option, None, IsTrue}
use Rattle.data_types.specs.declared.row_fault.RowFault.{RowFault}
use Rattle.data_types.specs.promise.Table.{Column, Row}
use Rattle.raw_array.specs.promise.Members.{ArrayTree}
use Rattle.raw_schema.specs.promise.Members.{SchemaTree}
use Rattle.stream_face.specs.promise.Shown.{Shown}
use Rattle.stream_face.specs.Texts.{Refusal}
use Rattle.stream_face.specs.promise.Streams.{Making}

pub record Traffic : Type 0 where
  pub blocks : ℕ
  pub nodes : ℕ

pub record Stream : Type 0 where
  -- the columns of each of its tables
  pub columns : List Column
  -- the rows of the tables that it still gives
  pub ahead : List (List Row)
  -- none where it comes to its end, else the record at which it ends
  pub ending : Option RowFault
  pub lawful : Bool
  -- the units of the structures that it keeps
  pub held : ℕ
  -- the tables that each link below it still shows
  pub joints : ℕ → List Shown
  -- how its tables are made, and those of each link below it; none where they are made of those of no link
  pub making : Option Making
  pub makings : ℕ → Option Making
  -- the blocks and nodes that its calls of `get_next` still count up to its end
  pub due : Traffic
  pub live : Bool
  -- the schema that it gives, and the structure that its next call of `get_next` gives, where it states them
  pub schema : Option SchemaTree
  pub chunk : Option ArrayTree
  -- what its last call of `get_next` that answered 0 gave, where it isn't lawful
  pub gave : Option ArrayTree
  -- the call of `get_next` that refused, if one did
  pub failure : Option Refusal
  -- the record at fault, after the code of a bad ending
  pub fault : Option RowFault
  -- the last get call, if it refused
  pub said : Option Refusal

-- the stream, of which the last get call said this
abbrev pub telling : Option Refusal → Stream → Stream
telling said s = record s { said = said }

-- the units that a release gives back
abbrev pub kept : Stream → ℕ
kept s = if s.live then s.held else 0

-- what no get call changes
pub record Keeps (old new : Stream) : Type 0 where
  pub columns : new.columns ≡ old.columns
  pub ending : new.ending ≡ old.ending
  pub lawful : new.lawful ≡ old.lawful
  pub held : new.held ≡ old.held
  pub live : new.live ≡ old.live
  pub schema : new.schema ≡ old.schema

-- a lawful stream of which no call of `get_next` has refused
pub record IsFresh (s : Stream) : Type 0 where
  pub lawful : IsTrue s.lawful
  pub no_failure : s.failure ≡ None

abbrev pub is_nil : {A : Type 0} → List A → Bool
is_nil [] = true
is_nil (x ∷ xs) = false
