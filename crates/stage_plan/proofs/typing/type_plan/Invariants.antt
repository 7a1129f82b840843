use Rattle.std.proofs.Common.{◌≡◌, length, map}
use Rattle.std.specs.Prelude.{All}
use Rattle.data_types.specs.ColumnForms.{KindsOk}
use Rattle.data_types.specs.ColumnView.{kind_of}
use Rattle.stage_plan.specs.PlanWords.{columns_in}
use Rattle.stage_plan.proofs.PlanWalk.{PlannedTo}
use Rattle.stage_plan.proofs.typing.type_plan.Given as goal

abbrev pub invariant-loop-place : goal.invariant-loop-place
invariant-loop-place l = record {
  planned : PlannedTo (columns_in l.initial.columns.items) l.stages l.place (columns_in l.columns.items)
      (map (λ link. columns_in link.items) l.links.items) l.steps.items;
  steps : length l.steps.items ≡ l.place;
  links : length l.links.items ≡ l.place;
  kinds : All (λ c. KindsOk (kind_of c.kind)) l.columns.items;
}
