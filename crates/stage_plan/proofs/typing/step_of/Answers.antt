use Rattle.std.proofs.Common.{◌≡◌, ◌∙◌, ℕ, List, ap, get_or, sym}
use Rattle.stage_model.specs.promise.Typing.{names_of, place_of, places_of}
use Rattle.stage_model.specs.declared.stage.StageText.{StageText}
use Rattle.stage_model.specs.declared.stage.StageText.TheVariants as texts
use Rattle.stage_plan.specs.PlanWords.{columns_in}
use Rattle.stage_plan.proofs.Rules.{filter-constant, filter-lacks, filter-step}
use Rattle.stage_plan.proofs.typing.step_of.Goals as goal

pub returns-in-Filter-clause-found : goal.returns-in-Filter-clause-found
returns-in-Filter-clause-found c =
    let columns = columns_in c.args.columns.now in
    let name = c.in-Filter.name in
    let test = c.in-Filter.test in
    let first : get_or c.args.places.items 0 c.index.result.now ≡ place_of columns name =
    ap (λ (ps : List ℕ). get_or ps 0 c.index.result.now) (c.requires.there.are ∙ ap (λ (t : StageText). places_of columns (names_of t)) c.in-Filter.is) in
    let is = c.in-Filter.is ∙ ap (λ (k : List ℕ). texts.Filter name test k) (sym c.as_slice-in-Filter.ensures) in
    filter-step columns c.args.text.now name test c.as_slice-in-Filter.result.now c.index.result.now is (c.index.ensures ∙ first)
    c.filter_step.result c.filter_step.ensures

pub returns-in-Filter-clause-right : goal.returns-in-Filter-clause-right
returns-in-Filter-clause-right c =
    let columns = columns_in c.args.columns.now in
    let name = c.in-Filter.name in
    let test = c.in-Filter.test in
    let first : get_or c.args.places.items 0 c.index.result.now ≡ place_of columns name =
    ap (λ (ps : List ℕ). get_or ps 0 c.index.result.now) (c.requires.there.are ∙ ap (λ (t : StageText). places_of columns (names_of t)) c.in-Filter.is) in
    let is = c.in-Filter.is ∙ ap (λ (k : List ℕ). texts.Filter name test k) (sym c.as_slice-in-Filter.ensures) in
    filter-constant columns c.args.text.now name test c.as_slice-in-Filter.result.now c.index.result.now is (c.index.ensures ∙ first)
    c.filter_step.result c.filter_step.ensures

pub returns-in-Filter-clause-wrong : goal.returns-in-Filter-clause-wrong
returns-in-Filter-clause-wrong c =
    let columns = columns_in c.args.columns.now in
    let name = c.in-Filter.name in
    let test = c.in-Filter.test in
    let first : get_or c.args.places.items 0 c.index.result.now ≡ place_of columns name =
    ap (λ (ps : List ℕ). get_or ps 0 c.index.result.now) (c.requires.there.are ∙ ap (λ (t : StageText). places_of columns (names_of t)) c.in-Filter.is) in
    let is = c.in-Filter.is ∙ ap (λ (k : List ℕ). texts.Filter name test k) (sym c.as_slice-in-Filter.ensures) in
    filter-lacks columns c.args.text.now name test c.as_slice-in-Filter.result.now c.index.result.now is (c.index.ensures ∙ first)
    c.filter_step.result c.filter_step.ensures
