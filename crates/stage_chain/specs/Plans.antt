-- The stages of a plan, as the definitions see them.
use Rattle.std.specs.Prelude.{◌≡◌, false, List, [], ◌∷◌, drop, map}
use Rattle.std.specs.List.{list_any}
use Rattle.std.specs.Vec.Iter.{into_iter_items}
use Rattle.std.specs.declared.vec.IntoIter.{IntoIter}
use Rattle.std.specs.Global.{Global}
use Rattle.data_types.specs.ColumnView.{column_of}
use Rattle.data_types.specs.promise.Table.{Column}
use Rattle.stage_model.specs.promise.Typing.{Stage, is_struct}
use Rattle.stage_model.specs.Typing.{IsStageOver}
use Rattle.stage_model.specs.declared.stage.Step.{Step}
use Rattle.stage_plan.specs.PlanWords.{columns_in}
use Rattle.stage_plan.specs.declared.typing.Plan.{Plan}
use Rattle.stage_chain.specs.declared.planned.PlannedStage.{PlannedStage}

-- a stage: its step, and the columns after it
abbrev pub stage_in : PlannedStage → Stage
stage_in planned = record { step = planned.step; columns = map column_of planned.columns.items }

abbrev pub stages_in : List PlannedStage → List Stage
stages_in planned = map stage_in planned

-- the stages that are left
abbrev pub stages_left : IntoIter PlannedStage Global → List Stage
stages_left planned = stages_in (into_iter_items planned)

-- stages in a row over columns: each is one that typing takes over the columns before it, and none of the last columns is
-- a struct
abbrev pub AreStages : List Column → List Stage → Type 0
AreStages columns [] = list_any (λ c. is_struct c.kind) columns ≡ false
AreStages columns (stage ∷ stages) = IsStageOver columns stage × AreStages stage.columns stages

-- steps with the columns after them
abbrev pub stages_by : List Step → List (List Column) → List Stage
stages_by (step ∷ steps) (columns ∷ links) = record { step = step; columns = columns } ∷ stages_by steps links
stages_by _ _ = []

-- the columns of each link
abbrev pub links_of : Plan → List (List Column)
links_of plan = map (λ link. columns_in link.items) plan.links.items

-- the stages of a plan: its steps, and the columns after each, behind those that are read
abbrev pub plan_stages : Plan → List Stage
plan_stages plan = stages_by plan.steps.items (drop 1 (links_of plan))
