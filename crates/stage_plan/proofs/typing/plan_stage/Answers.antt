use Rattle.std.proofs.Common.{◌∙◌, Err, ap, subst, sym}
use Rattle.stage_model.specs.declared.fault.PlanFault.{PlanFault}
use Rattle.stage_plan.specs.PlanWords.{IsThere, columns_in}
use Rattle.stage_plan.proofs.Fits.{AreFit, after-fit, fit, fit-back}
use Rattle.stage_plan.proofs.Rules.{are-there, lacks-column}
use Rattle.stage_plan.proofs.typing.plan_stage.Goals as goal

pub columns_after-requires-clause-there : goal.columns_after-requires-clause-there
columns_after-requires-clause-there c =
    let columns = columns_in c.args.columns.now in
    subst (IsThere columns c.args.text.now) (sym c.as_slice.ensures.value)
    (are-there columns c.args.text.now c.names_of-names.result.now c.in_ok-places.field-0 c.in-Some.places c.names_of-names.ensures c.in-Some.is
    c.in_ok-places.ensures.found c.in_ok-places.ensures.all)

pub takes_all-requires : goal.takes_all-requires
takes_all-requires c =
    let columns = columns_in c.args.columns.now in
    subst (IsThere columns c.args.text.now) (sym c.as_slice-3.ensures.value)
    (are-there columns c.args.text.now c.names_of-names.result.now c.in_ok-places.field-0 c.in-Some.places c.names_of-names.ensures c.in-Some.is
    c.in_ok-places.ensures.found c.in_ok-places.ensures.all)

pub step_of-requires-clause-there : goal.step_of-requires-clause-there
step_of-requires-clause-there c =
    are-there (columns_in c.args.columns.now) c.args.text.now c.names_of-names.result.now c.in_ok-places.field-0 c.in-Some.places
    c.names_of-names.ensures c.in-Some.is
    c.in_ok-places.ensures.found c.in_ok-places.ensures.all

pub returns-clause-kinds : goal.returns-clause-kinds
returns-clause-kinds c =
    let columns = columns_in c.args.columns.now in
    fit-back c.in_ok-after.after.items (subst AreFit (sym c.in_ok-after.ensures) (after-fit columns c.args.text.now (fit c.args.columns.now c.requires)))

pub returns-in_default-clause-fault : goal.returns-in_default-clause-fault
returns-in_default-clause-fault c = λ _.
    lacks-column (columns_in c.args.columns.now) c.args.text.now c.args.number c.names_of-names.result.now c.in_ok-places.field-0 c.names_of-names.ensures
    c.in_default.is c.in_ok-places.ensures.none
    ∙ ap (λ (f : PlanFault). Err f) (sym c.at.ensures)
