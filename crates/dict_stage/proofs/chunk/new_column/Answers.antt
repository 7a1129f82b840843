use Rattle.std.proofs.Common.{◌∙◌, ap, sym, subst, length, arith, List, IfOk}
use Rattle.data_types.specs.promise.Parts.{column_values}
use Rattle.data_types.specs.promise.Value.{Value}
use Rattle.tree_model.specs.promise.TreeParts.{children_of}
use Rattle.data_types.specs.promise.KindTrees.{KindTree}
use Rattle.data_types.specs.promise.TypedView.{typed_of}
use Rattle.layout_rules.specs.promise.Values.{rows_of}
use Rattle.layout_rules.specs.promise.Walk.{LayoutOk}
use Rattle.arr_import.specs.Cols.{window_of}
use Rattle.arr_import.specs.Window.{IsStruct}
use Rattle.column_fill.proofs.Counts.{kids-long}
use Rattle.dict_stage.specs.Recoded.{IsRecoded, text_kind}
use Rattle.dict_stage.proofs.Chunks.{own-values, texts-in}
use Rattle.dict_stage.proofs.chunk.new_column.Goals as goal

pub of-rows-requires-clause-lawful : goal.of-rows-requires-clause-lawful
of-rows-requires-clause-lawful c =
    let can = c.requires.chunk in subst (λ (t : KindTree). LayoutOk t c.args.chunk.now) (sym can.typed_is) can.ok.0

pub child-requires-clause-kind : goal.child-requires-clause-kind
child-requires-clause-kind c =
    let can = c.requires.chunk in
    subst IsStruct (sym (ap (λ w. w.typed) c.of-rows.ensures.window ∙ can.typed_is)) tt

pub child-requires-clause-inside : goal.child-requires-clause-inside
child-requires-clause-inside c =
    let can = c.requires.chunk in
    let types = ap (λ t. length (children_of t)) (ap (λ w. w.typed) c.of-rows.ensures.window ∙ can.typed_is) in
    omega (arith, types, kids-long can.columns, can.inside)

pub recoded_column-requires-clause-items : goal.recoded_column-requires-clause-items
recoded_column-requires-clause-items c =
    let can = c.requires.chunk in
    texts-in c.args.kind.now (window_of c.child.result) (column_values c.args.place (rows_of (typed_of c.args.typed.now) c.args.chunk.now))
    (own-values (typed_of c.args.typed.now) c.args.chunk.now c.args.place (window_of c.of-rows.result) (window_of c.child.result) c.of-rows.ensures.window
    c.child.ensures.window c.child.ensures.fields) can.texts

pub returns-clause-made : goal.returns-clause-made
returns-clause-made c =
    subst (λ (vs : List Value). IfOk c.recoded_column.result
    (λ column. IsRecoded (text_kind c.args.dict c.args.kind.now) vs column c.args.pass.now c.recoded_column.new.pass))
    (own-values (typed_of c.args.typed.now) c.args.chunk.now c.args.place (window_of c.of-rows.result) (window_of c.child.result) c.of-rows.ensures.window
    c.child.ensures.window c.child.ensures.fields) c.recoded_column.ensures.made
