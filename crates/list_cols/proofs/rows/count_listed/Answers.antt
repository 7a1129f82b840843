use Rattle.std.proofs.Common.{◌+◌, ◌≤◌, length, List, arith}
use Rattle.std.proofs.lemmas.List.{length-append}
use Rattle.arr_import.specs.Cols.{window_of}
use Rattle.arr_import.specs.Window.{item_at}
use Rattle.data_types.specs.promise.Value.{Value}
use Rattle.list_cols.proofs.Counted.{list-next, list-within}
use Rattle.list_cols.proofs.rows.count_listed.Goals as goal

pub returns-then-more-total : goal.returns-then-more-total
returns-then-more-total c =
    let w = window_of c.args.lists.now in
    let i = c.loop-i.i in
    let within : i + 1 ≤ w.count = omega (arith, c.loop-i-test.true, c.count_items-i-end.ensures.count) in
    omega (
      arith,
      c.if-more-total.true,
      c.loop-i.invariant.total,
      c.loop-i.invariant.few,
      c.list_length-more.ensures.length,
      list-next (λ (vs : List Value). length vs) length-append (item_at w) i,
      list-within (λ (vs : List Value). length vs) length-append (item_at w) (i + 1) w.count within,
    )

pub loop-i-preserved : goal.loop-i-preserved
loop-i-preserved c =
    let w = window_of c.args.lists.now in
    let i = c.loop-i.i in
    record {
      total = omega (
        arith,
        c.loop-i.invariant.total,
        c.list_length-more.ensures.length,
        list-next (λ (vs : List Value). length vs) length-append (item_at w) i,
      );
      few = omega (arith, c.if-more-total.false, c.loop-i.invariant.few);
    }
