use Rattle.std.proofs.Common.{rules, ◌∙◌, ap, arith, inl, inr, sym}
use Rattle.unit_pass.specs.promise.Tally.{risen}
use Rattle.tree_model.specs.promise.TreeData.{maybe_tree}
use Rattle.raw_array.specs.promise.Members.{Cost, holds_of}
use Rattle.raw_array.specs.Members.{cost_of_maybe}
use Rattle.raw_array.specs.View.{buffers_of}
use Rattle.raw_array.proofs.Buffers.{holds_of-count}
use Rattle.csv_read.specs.Chunks.{own_blocks}
use Rattle.csv_read.specs.Emptied.{IsSpent}
use Rattle.csv_read.proofs.ChunkCosts.{column-blocks, column-cost, few-blocks, finished-holds}
use Rattle.csv_read.proofs.chunk.column_array.Goals as goal

pub export_column-requires-clause-units : goal.export_column-requires-clause-units
export_column-requires-clause-units c =
    let held = c.requires.holds in
    omega (arith, c.in_ok-column.ensures.units held.0 held.1 held.2, few-blocks held.0 held.1, c.requires.units)

pub let_go_column-requires : goal.let_go_column-requires
let_go_column-requires c =
    let held = c.requires.holds in
    let made = c.in_ok-column.ensures.encoded held.0 held.1 held.2 in
    let same = ap (λ views. holds_of (buffers_of views)) c.in-Err.ensures.buffers_back in
    let none = ap (λ d. cost_of_maybe (maybe_tree d)) c.in-Err.ensures.dictionary_back in
    omega (
      arith,
      same,
      none,
      finished-holds _ _ made.buffers,
      c.in_ok-column.ensures.units held.0 held.1 held.2,
      c.in-Err.ensures.units,
      holds_of-count c.in-Err.column.buffers.items,
    )

pub returns-in-Ok-clause-units : goal.returns-in-Ok-clause-units
returns-in-Ok-clause-units c =
    let held = c.requires.holds in
    let tree = ap Cost (c.in-Ok.ensures.tree held.0 held.1 (c.in_ok-column.ensures.encoded held.0 held.1 held.2)) in
    omega (arith, tree, column-cost held.0 held.1, c.in_ok-column.ensures.units held.0 held.1 held.2, c.in-Ok.ensures.units)

pub returns-in-Ok-clause-small : goal.returns-in-Ok-clause-small
returns-in-Ok-clause-small c =
    let held = c.requires.holds in
    let tree = ap Cost (c.in-Ok.ensures.tree held.0 held.1 (c.in_ok-column.ensures.encoded held.0 held.1 held.2)) in
    omega (arith, tree, column-cost held.0 held.1, few-blocks held.0 held.1)

pub returns-in-Ok-clause-blocks : goal.returns-in-Ok-clause-blocks
returns-in-Ok-clause-blocks c =
    let held = c.requires.holds in
    let tree = ap own_blocks (c.in-Ok.ensures.tree held.0 held.1 (c.in_ok-column.ensures.encoded held.0 held.1 held.2)) ∙ column-blocks held.0 held.1 in
    c.in-Ok.ensures.blocks ∙ c.in_ok-column.ensures.blocks held.0 held.1 held.2 ∙ ap (risen c.args.pass.now.blocks) (sym tree)

pub returns-in-Err-clause-units_back : goal.returns-in-Err-clause-units_back
returns-in-Err-clause-units_back c =
    let held = c.requires.holds in
    let made = c.in_ok-column.ensures.encoded held.0 held.1 held.2 in
    let same = ap (λ views. holds_of (buffers_of views)) c.in-Err.ensures.buffers_back in
    let none = ap (λ d. cost_of_maybe (maybe_tree d)) c.in-Err.ensures.dictionary_back in
    omega (
      arith,
      same,
      none,
      finished-holds _ _ made.buffers,
      c.in_ok-column.ensures.units held.0 held.1 held.2,
      c.in-Err.ensures.units,
      c.let_go_column.ensures.units,
      holds_of-count c.in-Err.column.buffers.items,
    )

pub returns-in-Ok-clause-emptied : goal.returns-in-Ok-clause-emptied
returns-in-Ok-clause-emptied c = c.in_ok-column.ensures.emptied

pub returns-in-Err-clause-spent : goal.returns-in-Err-clause-spent
returns-in-Err-clause-spent c = inl c.in_ok-column.ensures.emptied

pub returns-in_err-column-clause-spent : goal.returns-in_err-column-clause-spent
returns-in_err-column-clause-spent c =
    let told : IsSpent c.args.builder.now c.finish.new.self = inr c.in_err-column.ensures.kept in
    search (rules, told)
