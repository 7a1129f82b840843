use Rattle.std.proofs.Common.{ℕ, List, map}
use Rattle.data_types.specs.ColumnView.{column_of}
use Rattle.csv_write.specs.CsvTexts.{HasText}
use Rattle.stream_tests.proofs.texts.written.Given as goal

-- it is a text of the columns
abbrev pub invariant-loop-chunk : goal.invariant-loop-chunk
invariant-loop-chunk g l = (written : List ℕ) × HasText l.text l.mark (map column_of l.columns) written
