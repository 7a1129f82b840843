-- What a stream over the records of a text means at its start.
use Rattle.std.specs.Prelude.{◌≤◌, ◌^◌, ℕ, true, List, [], length, Option, None}
use Rattle.std.specs.List.{sum_by}
use Rattle.csv_model.specs.promise.Batches.{Chunks}
use Rattle.csv_model.specs.promise.Reading.{Record}
use Rattle.csv_read.specs.RecordReader.{field_bytes}
use Rattle.data_types.specs.promise.Table.{Column, Row}
use Rattle.data_types.specs.declared.row_fault.RowFault.{RowFault}
use Rattle.stage_model.specs.promise.Traffic.{made_blocks, made_nodes}
use Rattle.stream_face.specs.promise.Shown.{Shown}
use Rattle.stream_face.specs.Streams.{Stream, Traffic}

-- records of a text of at most 2^30 bytes
abbrev pub AreShort : List Record → Type 0
AreShort records = (length records ≤ 2 ^ 30) × (field_bytes records ≤ 2 ^ 30)

-- no batch is left
abbrev pub no_batches : Option RowFault → Chunks
no_batches ending = record { chunks = []; ending = ending }

-- no link is below a source
abbrev pub no_joints : ℕ → List Shown
no_joints link = []

-- the blocks and the nodes of the chunks of these rows
abbrev pub chunks_traffic : List Column → List (List Row) → Traffic
chunks_traffic columns chunks = record { blocks = sum_by (made_blocks None columns) chunks; nodes = sum_by (λ rows. made_nodes None columns) chunks }

-- batches of rows, as a stream that was not asked yet
abbrev pub stream_of : List Column → Chunks → Stream
stream_of columns batches = record {
  columns = columns;
  ahead = batches.chunks;
  ending = batches.ending;
  lawful = true;
  held = 0;
  joints = no_joints;
  making = None;
  makings = λ link. None;
  due = chunks_traffic columns batches.chunks;
  live = true;
  schema = None;
  chunk = None;
  gave = None;
  failure = None;
  fault = None;
  said = None;
}
