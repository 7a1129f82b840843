-- The stages of a plan are stages over the columns that are read.
use Rattle.std.proofs.Common.{◌≡◌, ◌≤◌, ◌+◌, ◌∷◌, ℕ, zero, suc, List, [], All, drop, get_or, map, length, Option, Some, None, Result, Ok, Err, Bool, true}
use Rattle.std.proofs.Common.{false, ◌||◌, refl, sym, ◌∙◌, ap, subst, arith}
use Rattle.std.specs.List.{list_any}
use Rattle.field_codec.specs.TextColumns.{HasTexts, HaveTexts}
use Rattle.data_types.specs.ColumnForms.{AreColumnKinds}
use Rattle.data_types.specs.promise.Table.{Column, Kind, Flat, Dict, Columns}
use Rattle.stage_model.specs.Links.{last_columns}
use Rattle.stage_model.specs.promise.Typing.{RuleTest, Stage, columns_after, is_struct, plan_end, plan_from}
use Rattle.stage_model.specs.Typing.{first_failing, IsStageOver, plan_links, plan_steps}
use Rattle.stage_model.specs.promise.Typing.{rules_of, stage_over, stage_unless, step_of, with_stage}
use Rattle.stage_model.specs.declared.fault.PlanFault.{PlanFault}
use Rattle.stage_model.specs.declared.fault.PlanRule.{PlanRule}
use Rattle.stage_model.specs.declared.stage.StageText.{StageText}
use Rattle.stage_model.specs.declared.stage.Step.{Step}
use Rattle.stage_plan.specs.PlanWords.{IsPlan}
use Rattle.stage_plan.specs.declared.typing.Plan.{Plan}
use Rattle.stage_chain.specs.Plans.{AreStages, links_of, plan_stages, stages_by, stages_in}
use Rattle.stage_chain.specs.declared.planned.PlannedStage.{PlannedStage}

-- ---- the stages, one behind the other
-- where nothing is left, no stage is
pub no_stages : (planned : List PlannedStage) (len : ℕ) → len ≡ length planned → len ≡ 0 → stages_in planned ≡ []
no_stages [] len is none = refl
no_stages (p ∷ ps) len is none = absurd (omega (arith, is, none))

pub unless-same : (test : Option RuleTest) (made stage : Stage) → stage_unless test made ≡ Ok stage → made ≡ stage
unless-same None made stage e = cc
unless-same (Some test) made stage e = absurd (cc)

-- the columns after a stage are those of its text
pub after-same : (columns : List Column) (text : StageText) (stage : Stage) → stage_over columns text ≡ Ok stage → columns_after columns text ≡ stage.columns
after-same columns text stage e =
    ap (λ (s : Stage). s.columns)
    (unless-same (first_failing (rules_of columns text)) (record { step = step_of columns text; columns = columns_after columns text }) stage e)

pub end-plain : (number : ℕ) (some : Bool) (stages : List Stage) → plan_end number some ≡ Ok stages → (stages ≡ []) × (some ≡ false)
end-plain number true stages e = absurd (cc)
end-plain number false stages e = (cc, refl)

pub taken-stages : (number : ℕ) (columns : List Column) (text : StageText) (over : Result Stage PlanRule) (behind : Result (List Stage) PlanFault)
    (stages : List Stage)
    → stage_over columns text ≡ over → with_stage number over behind ≡ Ok stages
    → (stage : Stage) × (more : List Stage) × (stage_over columns text ≡ Ok stage) × (behind ≡ Ok more) × (stages ≡ stage ∷ more)
taken-stages number columns text (Err rule) behind stages is e = absurd (cc)
taken-stages number columns text (Ok stage) (Err fault) stages is e = absurd (cc)
taken-stages number columns text (Ok stage) (Ok more) stages is e = (stage, more, is, refl, cc)

-- stages that typing takes one behind the other
pub are_stages : (number : ℕ) (columns : List Column) (texts : List StageText) (stages : List Stage) → plan_from number columns texts ≡ Ok stages
    → AreStages columns stages
are_stages number columns [] stages e =
    let end = end-plain number (list_any (λ c. is_struct c.kind) columns) stages e in
    subst (AreStages columns) (sym end.0) end.1
are_stages number columns (text ∷ texts) stages e =
    let taken =
    taken-stages number columns text (stage_over columns text) (plan_from (number + 1) (columns_after columns text) texts) stages refl e in
    let stage = taken.0 in
    let more = taken.1 in
    let behind : plan_from (number + 1) stage.columns texts ≡ Ok more =
    subst (λ cs. plan_from (number + 1) cs texts ≡ Ok more) (after-same columns text stage taken.2) taken.3 in
    subst (AreStages columns) (sym taken.4)
    ((text, taken.2), are_stages (number + 1) stage.columns texts more behind)

-- ---- the stages of a plan
by-parts : (stages : List Stage) → stages_by (map (λ (s : Stage). s.step) stages) (map (λ (s : Stage). s.columns) stages) ≡ stages
by-parts [] = refl
by-parts (stage ∷ stages) = ap (λ more. stage ∷ more) (by-parts stages)

-- the stages of a plan are those that typing found
pub plan-stages-are : (columns : List Column) (texts : List StageText) (plan : Plan) (is : IsPlan columns texts plan) → plan_stages plan ≡ is.stages
plan-stages-are columns texts plan is =
    ap (λ steps. stages_by steps (drop 1 (links_of plan))) is.steps
    ∙ ap (λ links. stages_by (plan_steps is.stages) (drop 1 links)) is.links
    ∙ by-parts is.stages

pub plan-are-stages : (columns : List Column) (texts : List StageText) (plan : Plan) → IsPlan columns texts plan → AreStages columns (plan_stages plan)
plan-are-stages columns texts plan is =
    subst (AreStages columns) (sym (plan-stages-are columns texts plan is)) (are_stages 1 columns texts is.stages is.is)

pub few-stages : (steps : List Step) (links : List (List Column)) → length (stages_by steps links) ≤ length steps
few-stages [] links = omega arith
few-stages (step ∷ steps) [] = omega arith
few-stages (step ∷ steps) (columns ∷ links) = let e = few-stages steps links in omega (arith, e)

last-link : (columns : List Column) (stages : List Stage) → get_or (plan_links columns stages) (length (plan_steps stages)) [] ≡ last_columns columns stages
last-link columns [] = refl
last-link columns (stage ∷ stages) = last-link stage.columns stages

-- the columns of the last link
pub last-link-is : (columns : List Column) (texts : List StageText) (plan : Plan) → IsPlan columns texts plan
    → get_or (links_of plan) (length plan.steps.items) [] ≡ last_columns columns (plan_stages plan)
last-link-is columns texts plan is =
    ap (λ links. get_or links (length plan.steps.items) []) is.links
    ∙ ap (λ steps. get_or (plan_links columns is.stages) (length steps) []) is.steps
    ∙ last-link columns is.stages
    ∙ ap (last_columns columns) (sym (plan-stages-are columns texts plan is))

-- ---- columns that have texts
has-text : (kind : Kind) → is_struct kind ≡ false → AreColumnKinds kind → HasTexts kind
has-text (Flat kind) plain is = is
has-text (Dict kind) plain is = is
has-text (Columns fields) plain is = absurd (cc)

any-first : (first rest : Bool) → (first || rest) ≡ false → first ≡ false
any-first true rest e = e
any-first false rest e = refl

any-rest : (first rest : Bool) → (first || rest) ≡ false → rest ≡ false
any-rest true rest e = absurd (cc)
any-rest false rest e = e

have-texts : (columns : List Column) → list_any (λ c. is_struct c.kind) columns ≡ false → All (λ c. AreColumnKinds c.kind) columns → HaveTexts columns
have-texts [] plain all k none small = absurd (omega (arith, small))
have-texts (c ∷ cs) plain all zero none small =
    has-text c.kind (any-first (is_struct c.kind) (list_any (λ c. is_struct c.kind) cs) plain) (all zero none (omega arith))
have-texts (c ∷ cs) plain all (suc k) none small =
    have-texts cs (any-rest (is_struct c.kind) (list_any (λ c. is_struct c.kind) cs) plain) (λ j d below. all (suc j) d (omega (arith, below))) k none
    (omega (arith, small))

-- the last columns have texts, since none is a struct
pub last-texts : ((columns : List Column) (stage : Stage) → IsStageOver columns stage → All (λ c. AreColumnKinds c.kind) columns
    → All (λ c. AreColumnKinds c.kind) stage.columns) → (columns : List Column) (stages : List Stage) → AreStages columns stages
    → All (λ c. AreColumnKinds c.kind) columns → HaveTexts (last_columns columns stages)
last-texts keeps columns [] are kinds = have-texts columns are kinds
last-texts keeps columns (stage ∷ stages) are kinds = last-texts keeps stage.columns stages are.1 (keeps columns stage are.0 kinds)
