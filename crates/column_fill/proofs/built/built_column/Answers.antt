use Rattle.std.proofs.Common.{ap, arith}
use Rattle.tree_model.specs.promise.TreeData.{maybe_tree}
use Rattle.raw_array.specs.promise.Members.{holds_of}
use Rattle.raw_array.specs.Members.{cost_of_maybe}
use Rattle.raw_array.specs.View.{buffers_of}
use Rattle.raw_array.proofs.Buffers.{holds_of-count}
use Rattle.column_fill.proofs.ColumnCosts.{few-blocks, finished-holds}
use Rattle.column_fill.proofs.built.built_column.Goals as goal

pub export_column-requires-clause-units : goal.export_column-requires-clause-units
export_column-requires-clause-units c =
    let held = c.requires.holds in
    omega (arith, c.in-Ok.ensures.units held.0 held.1 held.2, few-blocks held.0 held.1, c.requires.units)

pub let_go_column-requires : goal.let_go_column-requires
let_go_column-requires c =
    let held = c.requires.holds in
    let made = c.in-Ok.ensures.encoded held.0 held.1 held.2 in
    let same = ap (λ views. holds_of (buffers_of views)) c.in-Err-export_column.ensures.buffers_back in
    let kept = ap (λ d. cost_of_maybe (maybe_tree d)) c.in-Err-export_column.ensures.dictionary_back in
    omega (
      arith,
      same,
      kept,
      finished-holds _ _ made.buffers,
      c.in-Ok.ensures.units held.0 held.1 held.2,
      c.in-Err-export_column.ensures.units,
      c.requires.room,
      holds_of-count c.in-Err-export_column.column.buffers.items,
    )

pub returns-in-Ok-clause-units_back : goal.returns-in-Ok-clause-units_back
returns-in-Ok-clause-units_back c =
    let held = c.requires.holds in
    let made = c.in-Ok.ensures.encoded held.0 held.1 held.2 in
    let same = ap (λ views. holds_of (buffers_of views)) c.in-Err-export_column.ensures.buffers_back in
    let kept = ap (λ d. cost_of_maybe (maybe_tree d)) c.in-Err-export_column.ensures.dictionary_back in
    omega (
      arith,
      same,
      kept,
      finished-holds _ _ made.buffers,
      c.in-Ok.ensures.units held.0 held.1 held.2,
      c.in-Err-export_column.ensures.units,
      c.let_go_column.ensures.units,
      holds_of-count c.in-Err-export_column.column.buffers.items,
    )
