use Rattle.std.proofs.Common.{take, map}
use Rattle.data_types.specs.ColumnView.{column_of}
use Rattle.csv_write.specs.CsvTexts.{AreFormsOf}
use Rattle.csv_write.proofs.column_form.column_forms.Given as goal

-- the forms are those of the columns so far
abbrev pub invariant-loop-column : goal.invariant-loop-column
invariant-loop-column l = AreFormsOf l.forms.items (map column_of (take l.column-index l.columns))
