-- What the stream means: one chunk of three whole numbers, and then its end.
use Rattle.std.specs.Prelude.{pos, Bool, true, false, not, List, [], ◌∷◌, Option, None, Some, codes}
use Rattle.arr_export.specs.promise.ValueColumns.{TypedValues}
use Rattle.column_fill.specs.Tables.{NamedValues, chunk_with, columns_with, rows_with}
use Rattle.data_types.specs.promise.Table.{Column, Row}
use Rattle.data_types.specs.promise.Value.{Whole}
use Rattle.data_types.specs.declared.kind.DataType.TheVariants.{Int}
use Rattle.raw_array.specs.promise.Members.{ArrayTree}
use Rattle.stream_face.specs.Streams.{Stream, Traffic}
use Rattle.stream_face.specs.Texts.{Refusal, wanting}
use Rattle.number_stream.specs.declared.numbers.Next.{Next}
use Rattle.number_stream.specs.declared.numbers.Next.TheVariants as next

-- ---- the table: its values say its columns, its rows and its tree

abbrev pub numbers : TypedValues
numbers = record { kind = Int 64 true; values = Whole (pos 1) ∷ Whole (pos 2) ∷ Whole (pos 3) ∷ [] }

abbrev pub number_values : List NamedValues
number_values = record { name = codes "n"; values = record { own = numbers; dictionary = None } } ∷ []

abbrev pub number_columns : List Column
number_columns = columns_with number_values

abbrev pub number_chunk : ArrayTree
number_chunk = chunk_with 3 number_values

-- ---- the stream

-- what is still given: the chunk, where it comes next
abbrev pub ahead_at : Next → List (List Row)
ahead_at next.Chunk = rows_with 3 number_values ∷ []
ahead_at _ = []

-- a block for the chunk's buffer, and a node for each of its structures
abbrev pub due_at : Next → Traffic
due_at next.Chunk = record { blocks = 1; nodes = 2 }
due_at _ = record { blocks = 0; nodes = 0 }

-- there was no memory for the chunk
abbrev pub failure_at : Next → Option Refusal
failure_at next.NoMemory = Some wanting
failure_at _ = None

abbrev pub said_if : Bool → Option Refusal
said_if true = Some wanting
said_if false = None

-- what comes next, whether the last get call had no memory, and whether the stream is released
abbrev pub number_stream : Next → Bool → Bool → Stream
number_stream next wants released = record {
  columns = number_columns;
  ahead = ahead_at next;
  ending = None;
  lawful = true;
  held = 0;
  joints = λ link. [];
  making = None;
  makings = λ link. None;
  due = due_at next;
  live = not released;
  schema = None;
  chunk = None;
  gave = None;
  failure = failure_at next;
  fault = None;
  said = said_if wants;
}
