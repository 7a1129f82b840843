use Rattle.std.proofs.Common.{ℕ, List, take}
use Rattle.std.specs.List.{AllZip}
use Rattle.csv_write.specs.ChunkTexts.{HasRow, row_at}
use Rattle.csv_write.specs.Lines.{HasFields, HasLines}
use Rattle.csv_write.specs.Readings.{Reads}
use Rattle.csv_write.specs.declared.chunk_text.ChunkColumn.{ChunkColumn}
use Rattle.csv_write.proofs.rows.write_row.Given as goal

-- the writer has the fields of the columns so far
abbrev pub invariant-loop-reading : goal.invariant-loop-reading
invariant-loop-reading l =
    (columns : List ChunkColumn) (text : List ℕ) → AllZip Reads l.readings columns → HasRow columns l.i → HasLines l.initial.writer text
    → HasFields l.writer text (row_at l.mark (take l.reading-index columns) l.i)
