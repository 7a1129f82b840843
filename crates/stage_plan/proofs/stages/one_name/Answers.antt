use Rattle.std.proofs.Common.{◌∙◌, ap, sym, Some}
use Rattle.stage_plan.proofs.StageCuts.{just-one, not-one}
use Rattle.stage_plan.proofs.stages.one_name.Goals as goal

pub returns-in-Some : goal.returns-in-Some
returns-in-Some c stage = sym (not-one stage c.args.arguments.now _ c.in-Some.ensures.found)

pub returns-in_ok-name-in-None : goal.returns-in_ok-name-in-None
returns-in_ok-name-in-None c stage =
    ap (λ n. Some (stage n)) c.in_ok-name-in-None.ensures ∙ sym (just-one stage c.args.arguments.now c.in-None.ensures.none)
