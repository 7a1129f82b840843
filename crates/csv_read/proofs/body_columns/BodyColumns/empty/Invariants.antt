use Rattle.std.proofs.Common.{◌≡◌, length, map}
use Rattle.data_types.specs.ColumnView.{column_of}
use Rattle.csv_read.specs.ColumnForms.{EachOf, IsFormOf}
use Rattle.csv_read.proofs.body_columns.BodyColumns.empty.Given as goal

-- each column so far has its form, and a place for what its builders have
abbrev pub invariant-loop-column : goal.invariant-loop-column
invariant-loop-column l = record {
  forms : EachOf IsFormOf l.forms.items (map column_of l.columns) l.column-index;
  used : length l.used.items ≡ l.column-index;
}
