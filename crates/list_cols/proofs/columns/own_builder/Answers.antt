use Rattle.std.proofs.Common.{◌≡◌, ◌∙◌, ◌<◌, List, length, ap, sym, subst}
use Rattle.std.specs.Prelude.{IfOk}
use Rattle.arr_import.specs.Cols.{window_of}
use Rattle.arr_import.specs.Window.{item_at}
use Rattle.col_build.specs.Encoding.{Fits}
use Rattle.col_build.specs.Holding.{Holds}
use Rattle.data_types.specs.promise.Value.{Value}
use Rattle.data_types.specs.declared.kind.DataType.{DataType}
use Rattle.data_types.specs.promise.KindTrees.{KindTree, kind_in}
use Rattle.data_types.specs.promise.TypedView.{typed_of}
use Rattle.layout_rules.specs.promise.Values.{tree_items}
use Rattle.tree_model.specs.promise.TreeParts.{child_at, children_of}
use Rattle.column_fill.specs.promise.FlatColumns.{is_flat_column}
use Rattle.list_cols.specs.Listed.{listed}
use Rattle.list_cols.specs.Spreading.{list_at, spread_values}
use Rattle.list_cols.proofs.Chunks.{chunk-is, own-kind, own-values}
use Rattle.list_cols.proofs.Fitting.{has-item, item-flat, own-flat}
use Rattle.list_cols.proofs.Kids.{level-live}
use Rattle.list_cols.proofs.columns.own_builder.Goals as goal

pub child_kinds-list-requires-clause-inside : goal.child_kinds-list-requires-clause-inside
child_kinds-list-requires-clause-inside c = c.requires.rows.inside

pub child_kinds-items-requires-clause-inside : goal.child_kinds-items-requires-clause-inside
child_kinds-items-requires-clause-inside c =
    let t = typed_of c.args.typed.now in
    let can = c.requires.rows in
    subst (λ (list : KindTree). 0 < length (children_of list)) (sym c.child_kinds-list.ensures.is)
    (has-item (child_at t c.args.column) (own-flat c.args.column t can.fitting can.inside))

pub flat_kind-requires-clause-flat : goal.flat_kind-requires-clause-flat
flat_kind-requires-clause-flat c =
    let t = typed_of c.args.typed.now in
    let can = c.requires.rows in
    let typed = c.child_kinds-items.ensures.is ∙ ap (λ (l : KindTree). child_at l 0) c.child_kinds-list.ensures.is in
    ap is_flat_column typed ∙ item-flat (child_at t c.args.column) (own-flat c.args.column t can.fitting can.inside)

pub list_items-requires : goal.list_items-requires
list_items-requires c =
    let t = typed_of c.args.typed.now in
    let column = c.args.column in
    let array = c.args.array.now in
    let can = c.requires.rows in
    let law = c.lawful_trees.ensures in
    let live = level-live c.args.typed.now c.kinds_of_typed.ensures in
    let is = chunk-is law.root law.parts law.items c.chunks_are_tables.ensures.chunk t array live can.chunk in
    let typed = c.child_kinds-items.ensures.is ∙ ap (λ (l : KindTree). child_at l 0) c.child_kinds-list.ensures.is in
    let lists = c.list_column-lists.ensures in
    let values = listed (item_at (window_of c.list_column-lists.result)) (window_of c.list_column-lists.result).count in
    let same : values ≡ listed (list_at column t array) (tree_items array) = λ j. listed (lists.lists j) (lists.count j) in
    let kind = own-kind column t array is can.inside ∙ sym (c.flat_kind.ensures.is ∙ ap kind_in typed) in
    let are = own-values column t array is can.inside ∙ sym same in
    record { items = subst (Fits c.flat_kind.result.now) are (subst (λ (d : DataType). Fits d (spread_values column t array column)) kind c.requires.fits) }

pub returns : goal.returns
returns c =
    let t = typed_of c.args.typed.now in
    let column = c.args.column in
    let array = c.args.array.now in
    let can = c.requires.rows in
    let law = c.lawful_trees.ensures in
    let live = level-live c.args.typed.now c.kinds_of_typed.ensures in
    let is = chunk-is law.root law.parts law.items c.chunks_are_tables.ensures.chunk t array live can.chunk in
    let typed = c.child_kinds-items.ensures.is ∙ ap (λ (l : KindTree). child_at l 0) c.child_kinds-list.ensures.is in
    let lists = c.list_column-lists.ensures in
    let values = listed (item_at (window_of c.list_column-lists.result)) (window_of c.list_column-lists.result).count in
    let same : values ≡ listed (list_at column t array) (tree_items array) = λ j. listed (lists.lists j) (lists.count j) in
    let kind = own-kind column t array is can.inside ∙ sym (c.flat_kind.ensures.is ∙ ap kind_in typed) in
    let are = own-values column t array is can.inside ∙ sym same in
    subst (λ (d : DataType). IfOk c.list_items.result (λ builder. Holds builder d (spread_values column t array column))) (sym kind)
    (subst (λ (vs : List Value). IfOk c.list_items.result (λ builder. Holds builder c.flat_kind.result.now vs)) (sym are) c.list_items.ensures)
