use Rattle.std.proofs.Common.{◌≡◌, take, true}
use Rattle.std.specs.List.{list_all}
use Rattle.data_types.specs.promise.Parts.{picked}
use Rattle.stage_model.specs.promise.Typing.{no_column, takes}
use Rattle.stage_plan.specs.PlanWords.{columns_in}
use Rattle.stage_plan.proofs.typing.takes_all.Given as goal

abbrev pub invariant-loop-place : goal.invariant-loop-place
invariant-loop-place l = list_all (λ c. takes l.text c.kind) (picked no_column (take l.place-index l.places) (columns_in l.columns)) ≡ true
