-- What the example's stream means: one chunk of a dictionary column k of texts and a column n of whole numbers, and then its end or a
-- record at fault.
use Rattle.std.specs.Prelude.{◌≡◌, ℕ, pos, Bool, true, false, not, List, [], ◌∷◌, Option, None, Some, codes}
use Rattle.arr_export.specs.promise.ValueColumns.{TypedValues, ValueColumn}
use Rattle.column_fill.specs.Tables.{NamedValues, chunk_with, index_type}
use Rattle.data_types.specs.promise.Table.{Column, Row, Dict, Flat}
use Rattle.data_types.specs.promise.Value.{Value, Bytes, Whole}
use Rattle.data_types.specs.declared.kind.DataType.{DataType}
use Rattle.data_types.specs.declared.kind.DataType.TheVariants as kinds
use Rattle.data_types.specs.declared.row_fault.RowFault.{RowFault}
use Rattle.data_types.specs.declared.row_fault.RowFault.TheVariants as rows
use Rattle.raw_array.specs.promise.Members.{ArrayTree}
use Rattle.tree_model.specs.promise.TreeData.{Released}
use Rattle.stream_face.specs.Streams.{Stream, Traffic}
use Rattle.stream_face.specs.Texts.{Refusal, refused_row, wanting}
use Rattle.run_tests.specs.declared.refused.Refused.{Refused}
use Rattle.run_tests.specs.declared.refused.Refused.TheVariants as refused

-- ---- the table

abbrev pub text : DataType
text = kinds.Utf8 false

abbrev pub long : DataType
long = kinds.Int 64 true

abbrev pub own_columns : List Column
own_columns = record { name = codes "k"; kind = Dict text } ∷ record { name = codes "n"; kind = Flat long } ∷ []

abbrev pub x : Value
x = Bytes (codes "x")

abbrev pub y : Value
y = Bytes (codes "y")

abbrev pub whole : ℕ → Value
whole n = Whole (pos n)

abbrev pub own_rows : List Row
own_rows = (x ∷ whole 1 ∷ []) ∷ (y ∷ whole 2 ∷ []) ∷ (x ∷ whole 3 ∷ []) ∷ []

-- ---- the values that its columns are made of

-- the dictionary of k, and the places of its values there
abbrev pub entries : TypedValues
entries = record { kind = text; values = x ∷ y ∷ [] }

abbrev pub places : TypedValues
places = record { kind = index_type; values = whole 0 ∷ whole 1 ∷ whole 0 ∷ [] }

abbrev pub numbers : TypedValues
numbers = record { kind = long; values = whole 1 ∷ whole 2 ∷ whole 3 ∷ [] }

abbrev pub k_values : ValueColumn
k_values = record { own = places; dictionary = Some entries }

abbrev pub n_values : ValueColumn
n_values = record { own = numbers; dictionary = None }

abbrev pub own_values : List NamedValues
own_values = record { name = codes "k"; values = k_values } ∷ record { name = codes "n"; values = n_values } ∷ []

abbrev pub own_chunk : ArrayTree
own_chunk = chunk_with 3 own_values

-- ---- why a call refuses

abbrev pub own_record : RowFault
own_record = rows.Ragged 4 1

abbrev pub refusal_of : Refused → Refusal
refusal_of refused.Record = refused_row own_record
refusal_of refused.NoMemory = wanting

abbrev pub refusal_in : Option Refused → Option Refusal
refusal_in None = None
refusal_in (Some why) = Some (refusal_of why)

-- the record at fault
abbrev pub record_in : Option Refused → Option RowFault
record_in (Some refused.Record) = Some own_record
record_in _ = None

-- ---- the stream

-- what is given next: the chunk, and then nothing where the stream ends well
abbrev pub IsNext : Bool → Bool → ArrayTree → Type 0
IsNext bad false out = out ≡ own_chunk
IsNext false true out = out ≡ Released
IsNext true true out = ⊥

-- why nothing is: there was no memory for the chunk, or behind it a record is at fault
abbrev pub IsWhy : Bool → Bool → Refused → Type 0
IsWhy bad false refused.NoMemory = Unit {0}
IsWhy true true refused.Record = Unit {0}
IsWhy _ _ _ = ⊥

abbrev pub ending_if : Bool → Option RowFault
ending_if false = None
ending_if true = Some own_record

abbrev pub ahead_unless : Bool → List (List Row)
ahead_unless true = []
ahead_unless false = own_rows ∷ []

-- a block for each of the chunk's buffers, and a node for each of its structures
abbrev pub due_unless : Bool → Traffic
due_unless true = record { blocks = 0; nodes = 0 }
due_unless false = record { blocks = 4; nodes = 4 }

-- whether it ends at a record at fault, whether its chunk was given, the refusal that stays, what the last get call said, and whether it
-- is released
abbrev pub own_stream : Bool → Bool → Option Refused → Option Refused → Bool → Stream
own_stream bad given failure said released = record {
  columns = own_columns;
  ahead = ahead_unless given;
  ending = ending_if bad;
  lawful = true;
  held = 0;
  joints = λ link. [];
  making = None;
  makings = λ link. None;
  due = due_unless given;
  live = not released;
  schema = None;
  chunk = None;
  gave = None;
  failure = refusal_in failure;
  fault = record_in failure;
  said = refusal_in said;
}
