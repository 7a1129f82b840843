-- What is planned of stages.
use Rattle.std.proofs.Common.{◌≡◌, ◌∙◌, ◌≤◌, ◌+◌, ℕ, List, [], ◌∷◌, Ok, length, get_or, ap, refl, subst, suc, arith}
use Rattle.std.specs.List.{list_any}
use Rattle.data_types.specs.promise.Table.{Column}
use Rattle.stage_chain.specs.Plans.{links_of}
use Rattle.stage_chain.proofs.Planning.{after-same, end-plain, taken-stages}
use Rattle.stage_model.specs.promise.Typing.{Stage, columns_after, is_struct, plan_from, stage_over}
use Rattle.stage_model.specs.Typing.{plan_steps}
use Rattle.stage_model.specs.declared.stage.StageText.{StageText}
use Rattle.stage_plan.specs.PlanWords.{IsPlan}
use Rattle.stage_plan.specs.declared.typing.Plan.{Plan}

count-from : (number : ℕ) (columns : List Column) (ts : List StageText) (stages : List Stage) → plan_from number columns ts ≡ Ok stages
    → length stages ≡ length ts
count-from number columns [] stages e = ap length (end-plain number (list_any (λ c. is_struct c.kind) columns) stages e).0
count-from number columns (text ∷ ts) stages e =
    let taken = taken-stages number columns text (stage_over columns text) (plan_from (number + 1) (columns_after columns text) ts) stages refl e in
    let behind : plan_from (number + 1) taken.0.columns ts ≡ Ok taken.1 =
    subst (λ cs. plan_from (number + 1) cs ts ≡ Ok taken.1) (after-same columns text taken.0 taken.2) taken.3 in
    ap length taken.4 ∙ ap suc (count-from (number + 1) taken.0.columns ts taken.1 behind)

steps-count : (stages : List Stage) → length (plan_steps stages) ≡ length stages
steps-count [] = refl
steps-count (stage ∷ stages) = ap suc (steps-count stages)

-- there is a step for each stage
pub steps-are-few : (columns : List Column) (ts : List StageText) (plan : Plan) → IsPlan columns ts plan → length plan.steps.items ≡ length ts
steps-are-few columns ts plan is = ap length is.steps ∙ steps-count is.stages ∙ count-from 1 columns ts is.stages is.is

-- the first link has the columns that are read
pub first-link : (columns : List Column) (ts : List StageText) (plan : Plan) → IsPlan columns ts plan → get_or (links_of plan) 0 [] ≡ columns
first-link columns ts plan is = ap (λ links. get_or links 0 []) is.links

pub some-links : (columns : List Column) (ts : List StageText) (plan : Plan) → IsPlan columns ts plan → 1 ≤ length (links_of plan)
some-links columns ts plan is = let e = ap length is.links in omega (arith, e)
