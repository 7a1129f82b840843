use Rattle.std.proofs.Common.{◌∙◌}
use Rattle.stage_plan.proofs.StageCuts.{cut-shorter, last-one, one-more}
use Rattle.stage_plan.proofs.stages.names_in.Goals as goal

pub loop-name-smaller : goal.loop-name-smaller
loop-name-smaller c = cut-shorter 44 c.loop-name.rest.now _ c.in-Some.ensures.found

pub loop-name-preserved : goal.loop-name-preserved
loop-name-preserved c =
    one-more c.loop-name.names.items _ _ c.loop-name.rest.now c.args.arguments.now _ c.in_ok-push.ensures.items
    c.in_ok-from_slice.ensures c.in-Some.ensures.found
    c.loop-name.invariant

pub returns : goal.returns
returns c =
    c.from_vec.ensures
    ∙ last-one c.loop-name.names.items _ _ c.loop-name.rest.now c.args.arguments.now c.in_ok-push-2.ensures.items c.in_ok-from_slice-2.ensures
    c.in_default.ensures.none
    c.loop-name.invariant
