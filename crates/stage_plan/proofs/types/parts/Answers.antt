use Rattle.std.proofs.Common.{refl}
use Rattle.stage_plan.proofs.Cuts.{one_part_more, last_part, shorter}
use Rattle.stage_plan.proofs.types.parts.Goals as goal

pub loop-part-preserved : goal.loop-part-preserved
loop-part-preserved c =
    rw c.in_ok-push.ensures.items
    (one_part_more c.loop-part.parts.items c.in-Some.part.now c.loop-part.rest.now c.in-Some.behind.now c.args.text.now c.in-Some.part refl
    c.in-Some.ensures.found c.loop-part.invariant)

pub loop-part-smaller : goal.loop-part-smaller
loop-part-smaller c = shorter 59 c.loop-part.rest.now c.in-Some.part.now c.in-Some.behind.now c.in-Some.ensures.found

pub returns : goal.returns
returns c =
    rw c.in_ok-push-2.ensures.items
    (last_part c.loop-part.parts.items c.loop-part.rest.now c.args.text.now c.loop-part.rest refl c.in_default.ensures.none c.loop-part.invariant)
