use Rattle.std.proofs.Common.{◌+◌, ◌≤◌, arith}
use Rattle.arr_import.specs.Cols.{window_of}
use Rattle.arr_import.specs.Window.{item_at}
use Rattle.data_types.specs.promise.Value.{byte_total}
use Rattle.list_cols.proofs.Counted.{list-next, list-within}
use Rattle.list_cols.proofs.Sums.{total-append}
use Rattle.list_cols.proofs.totals.lists_bytes.Goals as goal

pub returns-in-None : goal.returns-in-None
returns-in-None c =
    let w = window_of c.args.lists.now in
    let i = c.loop-i.i in
    let within : i + 1 ≤ w.count = omega (arith, c.loop-i-test.true, c.count_items-i-end.ensures.count) in
    omega (
      arith,
      c.in-None.ensures,
      c.loop-i.invariant.is,
      list-next byte_total total-append (item_at w) i,
      list-within byte_total total-append (item_at w) (i + 1) w.count within,
    )

pub loop-i-preserved : goal.loop-i-preserved
loop-i-preserved c =
    let w = window_of c.args.lists.now in
    let sum = c.in-Some.ensures in
    record {
      is = omega (arith, sum.0, c.loop-i.invariant.is, list-next byte_total total-append (item_at w) c.loop-i.i);
      few = omega (arith, sum.0, sum.1);
    }
