use Rattle.std.proofs.Common.{◌≡◌, map, take}
use Rattle.std.specs.List.{flat_map}
use Rattle.data_types.specs.ColumnView.{column_of}
use Rattle.data_types.specs.promise.Parts.{picked}
use Rattle.stage_model.specs.promise.Typing.{no_column, totals_columns}
use Rattle.stage_plan.specs.PlanWords.{columns_in}
use Rattle.stage_plan.proofs.after.totals.Given as goal

abbrev pub invariant-loop-place : goal.invariant-loop-place
invariant-loop-place l = map column_of l.after.items ≡ flat_map totals_columns (picked no_column (take l.place-index l.places) (columns_in l.columns))
