use Rattle.std.proofs.Common.{◌≤◌, ◌^◌, length, sym, subst, arith}
use Rattle.arr_export.specs.ArrayTrees.{AreIndices}
use Rattle.arr_import.specs.Cols.{window_of}
use Rattle.arr_import.specs.Window.{items_of}
use Rattle.stage_model.specs.promise.Dictionary.{Dictionary}
use Rattle.dict_stage.specs.Indices.{Indices, index_type}
use Rattle.dict_stage.proofs.Codes.{count-of}
use Rattle.dict_stage.proofs.Recoded.{dict-made, indices-of}
use Rattle.dict_stage.proofs.column.dict_column.Goals as goal

pub built_column-requires-2-clause-holds : goal.built_column-requires-2-clause-holds
built_column-requires-2-clause-holds c =
    let type = c.args.kind.now in
    let vs = items_of (window_of c.args.items.now) in
    let own = c.in_ok-dictionary.ensures.tree type (Dictionary vs) c.in_ok-builders.ensures.entries in (
      index_type,
      Indices vs,
      c.in_ok-builders.ensures.indices,
      subst (AreIndices index_type (Indices vs)) (sym own) (indices-of type vs),
    )

pub returns-in-Ok-clause-made : goal.returns-in-Ok-clause-made
returns-in-Ok-clause-made c =
    let type = c.args.kind.now in
    let vs = items_of (window_of c.args.items.now) in
    let entries = c.in_ok-builders.ensures.entries in
    let indices = c.in_ok-builders.ensures.indices in
    let first = c.in_ok-dictionary.ensures in
    let second = c.in-Ok.ensures in
    let few : length vs ≤ 2 ^ 30 = omega (arith, count-of (window_of c.args.items.now), c.requires.items.few) in
    dict-made type vs c.in_ok-dictionary.dictionary _ c.args.pass.now c.built_column.new.pass c.built_column-2.new.pass
    c.requires.items.is c.requires.items.bytes c.requires.items.items few
    (first.tree type (Dictionary vs) entries) (first.units type (Dictionary vs) entries) (first.blocks type (Dictionary vs) entries) first.nodes
    (second.tree index_type (Indices vs) indices) (second.units index_type (Indices vs) indices) (second.blocks index_type (Indices vs) indices) second.nodes
