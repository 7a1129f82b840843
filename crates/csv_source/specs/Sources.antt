-- What the source means as a stream.
use Rattle.std.specs.Prelude.{true, not, None}
use Rattle.std.specs.declared.io.traits.Read.{Ghosts}
use Rattle.csv_read.specs.BatchesLeft.{batches_left, columns_in}
use Rattle.stream_face.specs.Streams.{Stream}
use Rattle.csv_source.specs.Refusals.{refusal_in, row_in, said_by}
pub use Rattle.csv_source.specs.SourceStreams.{chunks_traffic, no_joints, stream_of}
use Rattle.csv_source.specs.declared.source.CsvSource.{CsvSource}

-- the batches that are left are ahead, and they end as the whole of them did at the start; a refusal stays
abbrev pub source_state : {B : Type 0} {row : Ghosts B} → CsvSource B row → Stream
source_state s = record {
  columns = columns_in s.batches;
  ahead = (batches_left s.batch s.batches).chunks;
  ending = (batches_left s.batch s.whole.value).ending;
  lawful = true;
  held = 0;
  joints = no_joints;
  making = None;
  makings = λ link. None;
  due = chunks_traffic (columns_in s.batches) (batches_left s.batch s.batches).chunks;
  live = not s.released;
  schema = None;
  chunk = None;
  gave = None;
  failure = refusal_in s.refused;
  fault = row_in s.refused;
  said = said_by s.word s.refused;
}
