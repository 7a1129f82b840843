use Rattle.std.proofs.Common.{◌++◌, ◌<◌, ℕ, List, map}
use Rattle.std.specs.List.{AllZip, concat}
use Rattle.csv.specs.Writing.{default_writer, row_text}
use Rattle.csv_write.specs.ChunkTexts.{HasRow, rows_at}
use Rattle.csv_write.specs.Lines.{HasLines}
use Rattle.csv_write.specs.Readings.{Reads}
use Rattle.csv_write.specs.declared.chunk_text.ChunkColumn.{ChunkColumn}
use Rattle.csv_write.proofs.rows.write_rows.Given as goal

-- the writer has the lines of the rows so far
abbrev pub invariant-loop-i : goal.invariant-loop-i
invariant-loop-i l =
    (columns : List ChunkColumn) (text : List ℕ) → AllZip Reads l.readings columns → ((i : ℕ) → i < l.i → HasRow columns i)
    → HasLines l.initial.writer text → HasLines l.writer (text ++ concat (map (row_text default_writer) (rows_at l.mark columns l.i)))
