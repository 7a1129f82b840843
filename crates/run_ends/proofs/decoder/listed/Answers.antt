use Rattle.std.proofs.Common.{◌≡◌, List, subst, sym, arith}
use Rattle.column_fill.specs.declared.runs.Run.{Run}
use Rattle.run_ends.specs.RunCols.{array_in, kinds_in}
use Rattle.run_ends.proofs.ItemsWalked.{Lists, one-listed}
use Rattle.run_ends.proofs.decoder.listed.Goals as goal

pub loop-at-preserved : goal.loop-at-preserved
loop-at-preserved c =
    let stop = c.stop_of-stop.ensures in
    let u = kinds_in c.args.col.now in
    let array = array_in c.args.col.now in (
      record { inside = stop.within; reaches = stop.next },
      subst (λ (runs : List Run). Lists u array runs c.stop_of-stop.result) (sym c.in_ok-push.ensures.items)
          (one-listed u array c.loop-at.runs.items c.loop-at.at c.loop-at.run c.stop_of-stop.result (omega (arith, stop.above)) stop.same stop.stored
          c.loop-at.invariant.1),
    )
