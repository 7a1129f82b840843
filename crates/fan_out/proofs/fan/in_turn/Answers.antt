use Rattle.std.proofs.Common.{ℤ, length}
use Rattle.data_types.specs.promise.TypedView.{typed_of}
use Rattle.layout_rules.specs.promise.Values.{rows_of}
use Rattle.fan_out.specs.Pieces.{GivesPiece}
use Rattle.fan_out.proofs.Lists.{pushed}
use Rattle.fan_out.proofs.Collecting.{given_more}
use Rattle.fan_out.proofs.fan.in_turn.Goals as goal

pub loop-worker-preserved : goal.loop-worker-preserved
loop-worker-preserved g c =
    let typed = typed_of c.args.typed.now in
    let rows = rows_of typed c.args.chunk.now in
    let more = pushed _ _ _ _ _ c.push.ensures.items c.is_err.ensures.negation c.if-is_err.false in
    let add = λ (gives : ℤ → ℤ → _ → Type 0).
    given_more (GivesPiece gives (length rows) c.args.workers.count) c.loop-worker.worker c.loop-worker.outs.items c.push.new.self.items c.in_ok-out.out in (
      add (g.J.Job.gives c.args.job.now typed rows) c.loop-worker.invariant.0 more c.in_ok-out.ensures.given,
      add (g.J.Job.reads c.args.job.now c.args.chunk.now) c.loop-worker.invariant.1 more c.in_ok-out.ensures.read,
    )
