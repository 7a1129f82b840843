use Rattle.std.proofs.Common.{arith, map}
use Rattle.total_stage.specs.Totals.{number_value}
use Rattle.total_stage.proofs.HeldRow.{row-all}
use Rattle.total_stage.proofs.row.row_values.Goals as goal

pub returns : goal.returns
returns c = λ picks rows are.
    row-all c.args.sums.now picks rows (map number_value c.loop-totals.values.items) c.loop-totals.totals-index are
    (omega (arith, c.loop-totals-test.false, c.loop-totals.auto.totals-index-end)) (c.loop-totals.invariant picks rows are)
