use Rattle.std.proofs.Common.{◌≡◌, ◌++◌, take}
use Rattle.stage_plan.specs.PlanWords.{columns_in}
use Rattle.stage_plan.proofs.after.add_columns.Given as goal

abbrev pub invariant-loop-column : goal.invariant-loop-column
invariant-loop-column l = columns_in l.after.items ≡ columns_in l.initial.after.items ++ columns_in (take l.column-index l.columns)
