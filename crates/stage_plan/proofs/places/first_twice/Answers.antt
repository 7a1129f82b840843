use Rattle.std.proofs.Common.{arith}
use Rattle.stage_plan.proofs.Loop.{put_in, was_new}
use Rattle.stage_plan.proofs.Twice.{twice-miss}
use Rattle.stage_plan.proofs.places.first_twice.Goals as goal

pub loop-place-preserved : goal.loop-place-preserved
loop-place-preserved c =
    twice-miss c.args.names.now c.loop-place.place c.loop-place.known.keys c.loop-place.invariant _ (omega arith) c.insert.new.self.keys
    (was_new c.in_ok-insert.field-0 _ c.in_ok-insert.ensures.added c.if-not-branch.false)
    (put_in _ _ c.in_ok-insert.field-0 c.in_ok-insert.ensures.keys c.if-not-branch.false)
