use Rattle.std.proofs.Common.{map}
use Rattle.data_types.specs.ColumnView.{column_of}
use Rattle.csv_read.specs.ColumnForms.{EachOf, IsBegun}
use Rattle.csv_read.proofs.body_columns.builders_of.Given as goal

-- each column so far has its builder
abbrev pub invariant-loop-column : goal.invariant-loop-column
invariant-loop-column l = EachOf IsBegun l.builders.items (map column_of l.columns) l.column-index
