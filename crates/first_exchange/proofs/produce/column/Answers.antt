use Rattle.std.proofs.Common.{List, Option, ap, map, arith}
use Rattle.std.specs.Prelude.{count_by, is_some}
use Rattle.buf_block.specs.declared.hold.BufView.{BufView}
use Rattle.tree_model.specs.promise.TreeData.{maybe_tree}
use Rattle.raw_array.specs.promise.Members.{Cost}
use Rattle.raw_array.specs.Members.{cost_of_maybe}
use Rattle.col_build.specs.Items.{value_of}
use Rattle.first_exchange.proofs.Columns.{column-cost, finished-holds}
use Rattle.first_exchange.proofs.produce.column.Goals as goal

pub export_column-requires-clause-units : goal.export_column-requires-clause-units
export_column-requires-clause-units c =
    let values = map value_of c.args.items.now in
    omega (arith, c.in-Ok.ensures.units c.args.kind values c.in_ok-builder.ensures, column-cost c.args.kind values, c.requires.units)

pub let_go_column-requires : goal.let_go_column-requires
let_go_column-requires c =
    let values = map value_of c.args.items.now in
    let made = c.in-Ok.ensures.encoded c.args.kind values c.in_ok-builder.ensures in
    let same = ap (λ (views : List (Option BufView)). count_by is_some views) c.in-Err-export_column.ensures.buffers_back in
    let none = ap (λ d. cost_of_maybe (maybe_tree d)) c.in-Err-export_column.ensures.dictionary_back in
    omega (
      arith,
      same,
      none,
      finished-holds _ _ made.buffers,
      c.in-Ok.ensures.units c.args.kind values c.in_ok-builder.ensures,
      c.in-Err-export_column.ensures.units,
    )

pub returns-in-Ok-export_column-clause-units : goal.returns-in-Ok-export_column-clause-units
returns-in-Ok-export_column-clause-units c =
    let values = map value_of c.args.items.now in
    let made = c.in-Ok.ensures.encoded c.args.kind values c.in_ok-builder.ensures in
    let cost = ap Cost (c.in-Ok-export_column.ensures.tree c.args.kind values made) in
    omega (
      arith,
      cost,
      column-cost c.args.kind values,
      c.in-Ok.ensures.units c.args.kind values c.in_ok-builder.ensures,
      c.in-Ok-export_column.ensures.units,
    )

pub returns-in-Ok-clause-units_back : goal.returns-in-Ok-clause-units_back
returns-in-Ok-clause-units_back c =
    let values = map value_of c.args.items.now in
    let made = c.in-Ok.ensures.encoded c.args.kind values c.in_ok-builder.ensures in
    let same = ap (λ (views : List (Option BufView)). count_by is_some views) c.in-Err-export_column.ensures.buffers_back in
    let none = ap (λ d. cost_of_maybe (maybe_tree d)) c.in-Err-export_column.ensures.dictionary_back in
    omega (
      arith,
      same,
      none,
      finished-holds _ _ made.buffers,
      c.in-Ok.ensures.units c.args.kind values c.in_ok-builder.ensures,
      c.in-Err-export_column.ensures.units,
      c.let_go_column.ensures.units,
    )
