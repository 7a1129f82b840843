use Rattle.std.proofs.Common.{sym, subst}
use Rattle.arr_export.specs.ArrayTrees.{AreIndices}
use Rattle.stage_filter.specs.KeptTrees.{index_type, indices_at}
use Rattle.stage_filter.proofs.MovedColumns.{moved-dict}
use Rattle.stage_filter.proofs.IndexedItems.{are-indices, has-dictionary}
use Rattle.stage_filter.proofs.dictionary.filtered_entries.Goals as goal

pub own_dictionary-dictionary-requires-clause-live : goal.own_dictionary-dictionary-requires-clause-live
own_dictionary-dictionary-requires-clause-live c =
    let law = c.lawful_trees.ensures in (has-dictionary law.root law.parts law.items c.args.kind.now c.args.array c.requires.items.ok).live

pub own_dictionary-dictionary-requires-clause-there : goal.own_dictionary-dictionary-requires-clause-there
own_dictionary-dictionary-requires-clause-there c =
    let law = c.lawful_trees.ensures in (has-dictionary law.root law.parts law.items c.args.kind.now c.args.array c.requires.items.ok).there

pub built_column-requires-clause-holds : goal.built_column-requires-clause-holds
built_column-requires-clause-holds c =
    let law = c.lawful_trees.ensures in
    let can = c.requires.items in
    let kept = c.args.kept.now in
    let has = has-dictionary law.root law.parts law.items c.args.kind.now c.args.array can.ok in (
      index_type,
      indices_at c.args.array c.args.start kept,
      c.in-Ok.ensures,
      subst (AreIndices index_type (indices_at c.args.array c.args.start kept)) (sym c.own_dictionary-dictionary.ensures.dictionary)
          (are-indices c.args.kind.now c.args.array c.args.start kept has can.inside),
    )

pub returns-in-Ok-built_column-clause-moved : goal.returns-in-Ok-built_column-clause-moved
returns-in-Ok-built_column-clause-moved c =
    let law = c.lawful_trees.ensures in
    let can = c.requires.items in
    let kind = c.args.kind.now in
    let kept = c.args.kept.now in
    let has = has-dictionary law.root law.parts law.items kind c.args.array can.ok in
    let indices = indices_at c.args.array c.args.start kept in
    let own = c.own_dictionary-dictionary.ensures in
    let made = c.in-Ok-built_column.ensures in
    let holds = c.in-Ok.ensures in
    moved-dict kind c.args.array c.args.start kept _ c.own_dictionary-dictionary.result c.args.pass.now c.own_dictionary-dictionary.new.pass
    c.built_column.new.pass can has own.dictionary
    (made.tree index_type indices holds) own.units own.more own.blocks own.nodes
    (made.units index_type indices holds) (made.blocks index_type indices holds) made.nodes
