use Rattle.std.proofs.Common.{◌≡◌, map, take}
use Rattle.data_types.specs.ColumnView.{column_of}
use Rattle.data_types.specs.promise.Parts.{picked}
use Rattle.stage_model.specs.promise.Typing.{no_column}
use Rattle.stage_plan.specs.PlanWords.{columns_in}
use Rattle.stage_plan.proofs.after.picked.Given as goal

abbrev pub invariant-loop-place : goal.invariant-loop-place
invariant-loop-place l = map column_of l.after.items ≡ picked no_column (take l.place-index l.places) (columns_in l.columns)
