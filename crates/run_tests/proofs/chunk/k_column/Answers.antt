use Rattle.std.proofs.Common.{◌≡◌, ◌+◌, Some, ap, subst, sym, arith}
use Rattle.std.proofs.lemmas.Result.{IfOk-weaker, on_err_weaker, on_ok_weaker}
use Rattle.arr_export.specs.promise.ArrayTrees.{column_tree}
use Rattle.arr_export.specs.ArrayTrees.{AreIndices}
use Rattle.arr_export.specs.ValueColumns.{tree_of}
use Rattle.column_fill.specs.Tables.{index_type}
use Rattle.raw_array.specs.promise.Members.{ArrayTree, Cost}
use Rattle.unit_pass.specs.promise.Tally.{risen}
use Rattle.run_tests.proofs.Fitting.{own-indices}
use Rattle.run_tests.specs.Own.{entries, k_values, places}
use Rattle.run_tests.proofs.chunk.k_column.Goals as goal

pub built_column-requires-2-clause-holds : goal.built_column-requires-2-clause-holds
built_column-requires-2-clause-holds c =
    let is = c.in_ok-dictionary.ensures.tree entries.kind entries.values c.in_ok-entries.ensures in
    (index_type, places.values, c.in_ok-places.ensures, subst (AreIndices index_type places.values) (sym is) own-indices)

pub built_column-requires-2-clause-units : goal.built_column-requires-2-clause-units
built_column-requires-2-clause-units c =
    let used : c.built_column.new.pass.units + 3 ≡ c.args.pass.now.units =
    c.in_ok-dictionary.ensures.units entries.kind entries.values c.in_ok-entries.ensures in
    omega (arith, used, c.requires.room)

pub built_column-requires-2-clause-room : goal.built_column-requires-2-clause-room
built_column-requires-2-clause-room c =
    let used : c.built_column.new.pass.units + 3 ≡ c.args.pass.now.units =
    c.in_ok-dictionary.ensures.units entries.kind entries.values c.in_ok-entries.ensures in
    let cost : Cost c.in_ok-dictionary.dictionary ≡ 3 = ap Cost (c.in_ok-dictionary.ensures.tree entries.kind entries.values c.in_ok-entries.ensures) in
    omega (arith, used, cost, c.args.pass.now.supply)

pub returns-clause-tree : goal.returns-clause-tree
returns-clause-tree c =
    let is = c.in_ok-dictionary.ensures.tree entries.kind entries.values c.in_ok-entries.ensures in
    IfOk-weaker c.built_column-2.result _ (λ array. array ≡ tree_of k_values)
    (λ array tree. subst (λ (d : ArrayTree). array ≡ column_tree index_type places.values (Some d)) is (tree index_type places.values c.in_ok-places.ensures))
    c.built_column-2.ensures.tree

pub returns-clause-units : goal.returns-clause-units
returns-clause-units c =
    let used : c.built_column.new.pass.units + 3 ≡ c.args.pass.now.units =
    c.in_ok-dictionary.ensures.units entries.kind entries.values c.in_ok-entries.ensures in
    on_ok_weaker c.built_column-2.result
    (λ units.
    let more : c.built_column-2.new.pass.units + 2 ≡ c.built_column.new.pass.units = units index_type places.values c.in_ok-places.ensures in
    omega (arith, used, more))
    c.built_column-2.ensures.units

pub returns-clause-blocks : goal.returns-clause-blocks
returns-clause-blocks c =
    let first : c.built_column.new.pass.blocks ≡ risen c.args.pass.now.blocks 2 =
    c.in_ok-dictionary.ensures.blocks entries.kind entries.values c.in_ok-entries.ensures in
    on_ok_weaker c.built_column-2.result
    (λ blocks.
    let more : c.built_column-2.new.pass.blocks ≡ risen c.built_column.new.pass.blocks 1 =
    blocks index_type places.values c.in_ok-places.ensures in
    omega (arith, first, more))
    c.built_column-2.ensures.blocks

pub returns-clause-units_back : goal.returns-clause-units_back
returns-clause-units_back c =
    let used : c.built_column.new.pass.units + 3 ≡ c.args.pass.now.units =
    c.in_ok-dictionary.ensures.units entries.kind entries.values c.in_ok-entries.ensures in
    let cost : Cost c.in_ok-dictionary.dictionary ≡ 3 = ap Cost (c.in_ok-dictionary.ensures.tree entries.kind entries.values c.in_ok-entries.ensures) in
    on_err_weaker c.built_column-2.result (λ back. omega (arith, used, cost, back)) c.built_column-2.ensures.units_back
