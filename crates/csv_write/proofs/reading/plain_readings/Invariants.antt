use Rattle.std.proofs.Common.{◌≡◌, ◌≤◌, List, length, vec_len}
use Rattle.std.specs.List.{AllZip}
use Rattle.std.specs.Vec.{vec_capacity}
use Rattle.arr_import.specs.Cols.{window_of}
use Rattle.csv_write.specs.Readings.{Reads}
use Rattle.csv_write.specs.declared.chunk_text.ChunkColumn.{ChunkColumn}
use Rattle.csv_write.proofs.ChunkTexts.{AreFirst}
use Rattle.csv_write.proofs.reading.plain_readings.Given as goal

-- the readings are those of the children so far, and there is room for the others
abbrev pub invariant-loop-k : goal.invariant-loop-k
invariant-loop-k l = record {
  count : vec_len l.readings ≡ l.k;
  room : length l.forms ≤ vec_capacity l.readings;
  read : (columns : List ChunkColumn) × AreFirst columns l.forms (window_of l.chunk) l.k × AllZip Reads l.readings.items columns;
}
