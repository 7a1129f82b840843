use Rattle.std.proofs.Common.{◌≡◌, map, take}
use Rattle.data_types.specs.ColumnView.{column_of}
use Rattle.csv_model.specs.Header.{header_columns}
use Rattle.stage_plan.specs.PlanWords.{texts}
use Rattle.stage_plan.specs.promise.Entries.{entries_of}
use Rattle.csv_read.proofs.columns.columns.Given as goal

abbrev pub invariant-loop-name : goal.invariant-loop-name
invariant-loop-name l = map column_of l.columns.items ≡ header_columns (entries_of l.entries) (texts (take l.name-index l.names))
