use Rattle.std.proofs.Common.{◌≡◌, ◌+◌, List, []}
use Rattle.data_types.specs.promise.Table.{Column}
use Rattle.csv_read.specs.BodyRows.{HasRows, RowsSoFar}
use Rattle.csv_read.proofs.body.read_rows.Given as goal

-- the columns are read as before, and hold the rows of the records that were read
abbrev pub invariant-loop-made : goal.invariant-loop-made
invariant-loop-made g l = record {
  forms : l.made.forms ≡ l.initial.made.forms;
  mark : l.made.mark ≡ l.initial.made.mark;
  so_far : (columns : List Column) → HasRows l.initial.made columns []
      → RowsSoFar l.initial.made.mark (l.fn.read + 1) l.fn.batch columns l.initial.records l.made l.records;
}

abbrev pub decreases-loop-made : goal.decreases-loop-made
decreases-loop-made g l = l.records.size
