use Rattle.std.proofs.Common.{◌≡◌, ◌≤◌, ◌+◌, ◌*◌, suc, List, take, replicate, get_or, ap, arith}
use Rattle.std.proofs.Math.Nat.{mul-le-mul_left}
use Rattle.std.specs.List.{flat_map}
use Rattle.arr_import.specs.Cols.{window_of}
use Rattle.arr_import.specs.Window.{item_at}
use Rattle.column_fill.specs.declared.runs.Run.{Run}
use Rattle.data_types.specs.promise.Value.{Value, byte_total}
use Rattle.list_cols.proofs.Sums.{total-next, total-prefix, total-times}
use Rattle.list_cols.proofs.totals.runs_bytes.Goals as goal

abbrev none : Run
none = record { item = 0; times = 0 }

pub item_bytes-bytes-requires-clause-inside : goal.item_bytes-bytes-requires-clause-inside
item_bytes-bytes-requires-clause-inside c = c.requires.inside c.loop-run.run-index none c.loop-run-test.true

pub item_bytes-bytes-requires-clause-small : goal.item_bytes-bytes-requires-clause-small
item_bytes-bytes-requires-clause-small c = omega (arith, c.requires.near, c.requires.inside c.loop-run.run-index none c.loop-run-test.true)

pub returns-in-None : goal.returns-in-None
returns-in-None c =
    let w = window_of c.args.items.now in
    let runs = c.args.runs.now in
    let k = c.loop-run.run-index in
    let run = get_or runs k none in
    let f : Run → List Value = λ r. replicate r.times (item_at w r.item) in
    omega (
      arith,
      c.in-None.ensures,
      c.loop-run.invariant.is,
      c.product.ensures.is,
      ap (λ n. run.times * n) c.item_bytes-bytes.ensures.bytes,
      total-times run.times (item_at w run.item),
      total-next f runs k none c.loop-run-test.true,
      total-prefix f runs (suc k),
    )

pub loop-run-preserved : goal.loop-run-preserved
loop-run-preserved c =
    let w = window_of c.args.items.now in
    let runs = c.args.runs.now in
    let k = c.loop-run.run-index in
    let run = get_or runs k none in
    let f : Run → List Value = λ r. replicate r.times (item_at w r.item) in
    let sum = c.in-Some.ensures in
    let place : k + 1 ≡ suc k = omega arith in
    record {
      is = omega (
        arith,
        sum.0,
        c.loop-run.invariant.is,
        c.product.ensures.is,
        ap (λ n. run.times * n) c.item_bytes-bytes.ensures.bytes,
        total-times run.times (item_at w run.item),
        total-next f runs k none c.loop-run-test.true,
        ap (λ n. byte_total (flat_map f (take n runs))) place,
      );
      few = omega (arith, sum.0, sum.1);
    }

pub plus-requires-clause-more : goal.plus-requires-clause-more
plus-requires-clause-more c =
    let times = (get_or c.args.runs.now c.loop-run.run-index none).times in
    let many : c.item_bytes-bytes.result ≤ 18446744073709551615 = omega (arith, c.item_bytes-bytes.ensures.small) in
    let few : times ≤ 18446744073709551615 = omega (arith, c.product.ensures.few) in
    omega (arith, few, c.product.ensures.is, mul-le-mul_left times many)
