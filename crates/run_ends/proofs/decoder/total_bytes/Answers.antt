use Rattle.std.proofs.Common.{◌≡◌, ◌∙◌, arith}
use Rattle.run_ends.specs.RunCols.{array_in, kinds_in}
use Rattle.run_ends.proofs.ItemsWalked.{walk-on}
use Rattle.run_ends.proofs.decoder.total_bytes.Goals as goal

pub loop-at-preserved : goal.loop-at-preserved
loop-at-preserved c =
    let stop = c.stop_of-stop.ensures in
    walk-on (kinds_in c.args.col.now) (array_in c.args.col.now) c.loop-at.at c.loop-at.run c.stop_of-stop.result c.loop-at.total c.from.result
    c.from-in-loop-at.result stop.above stop.within stop.same stop.next c.from.ensures (c.from-in-loop-at.ensures ∙ c.value_bytes.ensures.bytes)
    (omega (arith, c.from-in-loop-at.ensures, c.value_bytes.ensures.small)) c.loop-at.invariant.1 c.loop-at.invariant.2
