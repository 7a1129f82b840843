-- What a text that is read ahead means as a stream.
use Rattle.std.specs.Prelude.{true, is_some, map, List, [], Option, None, Some}
use Rattle.ahead_ring.specs.Coming.{Coming}
use Rattle.csv_source.specs.Refusals.{refusal_in, row_in, said_by}
use Rattle.csv_source.specs.SourceStreams.{chunks_traffic, no_joints}
use Rattle.csv_source.specs.declared.refused.Refused.{Refused}
use Rattle.data_types.specs.ColumnView.{column_of}
use Rattle.data_types.specs.promise.Table.{Row}
use Rattle.stream_face.specs.Streams.{Stream}
use Rattle.csv_source.specs.NextPieces.{to_come}
use Rattle.csv_source.specs.Pieces.{maker_batches, tables_of}
use Rattle.csv_source.specs.declared.maker.Piece.{Piece}
use Rattle.csv_source.specs.declared.ahead.CsvAhead.{CsvAhead}

-- the tables that are still to come; none once the stream has refused
abbrev pub tables_left : Option Refused → Option (Coming Piece) → List (List Row)
tables_left None coming = tables_of (to_come coming)
tables_left (Some why) coming = []

-- the batches that are to come are ahead, and they end as the whole of them did at the start; a refusal stays
abbrev pub ahead_state : {R : Type 0} → CsvAhead R → Stream
ahead_state s = record {
  columns = map column_of s.columns;
  ahead = tables_left s.refused s.ahead;
  ending = (maker_batches s.whole.value).ending;
  lawful = true;
  held = 0;
  joints = no_joints;
  making = None;
  makings = λ link. None;
  due = chunks_traffic (map column_of s.columns) (tables_left s.refused s.ahead);
  live = is_some s.ahead;
  schema = None;
  chunk = None;
  gave = None;
  failure = refusal_in s.refused;
  fault = row_in s.refused;
  said = said_by s.word s.refused;
}
