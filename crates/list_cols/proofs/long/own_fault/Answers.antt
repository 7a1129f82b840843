use Rattle.std.proofs.Common.{◌≡◌, ◌∙◌, ◌<◌, All, List, length, ap, sym, subst, arith}
use Rattle.arr_import.specs.Cols.{window_of}
use Rattle.arr_import.specs.Window.{item_at}
use Rattle.data_types.specs.promise.Value.{Value}
use Rattle.data_types.specs.promise.KindTrees.{KindTree, kind_in}
use Rattle.data_types.specs.KindTrees.{TypedOk}
use Rattle.data_types.specs.promise.TypedView.{typed_of}
use Rattle.layout_rules.specs.promise.Values.{tree_items}
use Rattle.layout_rules.specs.promise.Walk.{LayoutOk}
use Rattle.array_laws.specs.Items.{IsItemOf}
use Rattle.raw_array.specs.promise.Members.{ArrayTree}
use Rattle.tree_model.specs.promise.TreeParts.{child_at, children_of}
use Rattle.column_fill.specs.promise.FlatColumns.{is_flat_column}
use Rattle.list_cols.specs.Listed.{listed}
use Rattle.list_cols.specs.Spreading.{list_at}
use Rattle.list_cols.proofs.ChunkItems.{list-live, own-items}
use Rattle.list_cols.proofs.Chunks.{chunk-is, own-kind, own-values}
use Rattle.list_cols.proofs.Fitting.{fits-by, has-item, item-flat, long-by, own-flat}
use Rattle.list_cols.proofs.Kids.{level-live}
use Rattle.list_cols.proofs.long.own_fault.Goals as goal

pub child_kinds-list-requires-clause-inside : goal.child_kinds-list-requires-clause-inside
child_kinds-list-requires-clause-inside c = c.requires.rows.inside

pub child_kinds-items-requires-clause-inside : goal.child_kinds-items-requires-clause-inside
child_kinds-items-requires-clause-inside c =
    let t = typed_of c.args.typed.now in
    let can = c.requires.rows in
    subst (λ (list : KindTree). 0 < length (children_of list)) (sym c.child_kinds-list.ensures.is)
    (has-item (child_at t c.args.column) (own-flat c.args.column t can.fitting can.inside))

pub child-child-requires : goal.child-child-requires
child-child-requires c =
    let t = typed_of c.args.typed.now in
    let can = c.requires.rows in
    let law = c.lawful_trees.ensures in
    let root = law.root t c.args.array.now (level-live c.args.typed.now c.kinds_of_typed.ensures) can.chunk.0 in
    omega (arith, root.kids, can.inside)

pub child-requires : goal.child-requires
child-requires c =
    let t = typed_of c.args.typed.now in
    let can = c.requires.rows in
    let law = c.lawful_trees.ensures in
    let live = level-live c.args.typed.now c.kinds_of_typed.ensures in
    let is = chunk-is law.root law.parts law.items c.chunks_are_tables.ensures.chunk t c.args.array.now live can.chunk in
    let flat = own-flat c.args.column t can.fitting can.inside in
    let root = law.root (child_at t c.args.column) (child_at c.args.array.now c.args.column) (list-live (child_at t c.args.column) flat)
    (is.parts.kids c.args.column can.inside) in
    let same = ap (λ (a : ArrayTree). length (children_of a)) c.child-child.ensures in
    omega (arith, same, root.kids, has-item (child_at t c.args.column) flat)

pub lawful_values_fit-requires-clause-lawful : goal.lawful_values_fit-requires-clause-lawful
lawful_values_fit-requires-clause-lawful c =
    let t = typed_of c.args.typed.now in
    let can = c.requires.rows in
    let law = c.lawful_trees.ensures in
    let live = level-live c.args.typed.now c.kinds_of_typed.ensures in
    let is = chunk-is law.root law.parts law.items c.chunks_are_tables.ensures.chunk t c.args.array.now live can.chunk in
    let flat = own-flat c.args.column t can.fitting can.inside in
    let list = child_at t c.args.column in
    let child = child_at c.args.array.now c.args.column in
    let parts = law.parts list child (list-live list flat) (is.parts.kids c.args.column can.inside) in
    let typed = c.child_kinds-items.ensures.is ∙ ap (λ (l : KindTree). child_at l 0) c.child_kinds-list.ensures.is in
    let array = c.child.ensures ∙ ap (λ (a : ArrayTree). child_at a 0) c.child-child.ensures in
    subst (λ (k : KindTree). LayoutOk k c.child.result.now) (sym typed)
    (subst (λ (a : ArrayTree). LayoutOk (child_at list 0) a) (sym array) (parts.kids 0 (has-item list flat)))

pub flat_kind-kind-requires-clause-flat : goal.flat_kind-kind-requires-clause-flat
flat_kind-kind-requires-clause-flat c =
    let t = typed_of c.args.typed.now in
    let can = c.requires.rows in
    let typed = c.child_kinds-items.ensures.is ∙ ap (λ (l : KindTree). child_at l 0) c.child_kinds-list.ensures.is in
    ap is_flat_column typed ∙ item-flat (child_at t c.args.column) (own-flat c.args.column t can.fitting can.inside)

pub returns-clause-none : goal.returns-clause-none
returns-clause-none c =
    let t = typed_of c.args.typed.now in
    let column = c.args.column in
    let array = c.args.array.now in
    let can = c.requires.rows in
    let law = c.lawful_trees.ensures in
    let live = level-live c.args.typed.now c.kinds_of_typed.ensures in
    let is = chunk-is law.root law.parts law.items c.chunks_are_tables.ensures.chunk t array live can.chunk in
    let list = child_at t column in
    let flat = own-flat column t can.fitting can.inside in
    let ok = subst TypedOk c.child_kinds-list.ensures.is c.child_kinds-list.ensures.types in
    let typed = c.child_kinds-items.ensures.is ∙ ap (λ (l : KindTree). child_at l 0) c.child_kinds-list.ensures.is in
    let child = c.child.ensures ∙ ap (λ (a : ArrayTree). child_at a 0) c.child-child.ensures in
    let lists = c.list_column-lists.ensures in
    let values = listed (item_at (window_of c.list_column-lists.result)) (window_of c.list_column-lists.result).count in
    let same : values ≡ listed (list_at column t array) (tree_items array) = λ j. listed (lists.lists j) (lists.count j) in
    let items = own-items column t array is can.inside law.root law.items ok flat in
    fits-by column t array is can.inside c.requires.few column (typed_of c.child_kinds-items.result.now) c.child.result.now c.flat_kind-kind.result.now values
    (own-kind column t array is can.inside ∙ sym (c.flat_kind-kind.ensures.is ∙ ap kind_in typed))
    (own-values column t array is can.inside ∙ sym same) c.lawful_values_fit.ensures.items c.flat_kind-kind.ensures.typed c.flat_kind-kind.ensures.form
    (subst (λ (k : KindTree). All (IsItemOf k c.child.result.now) values) (sym typed)
    (subst (λ (a : ArrayTree). All (IsItemOf (child_at list 0) a) values) (sym child)
    (subst (λ (vs : List Value). All (IsItemOf (child_at list 0) (child_at (child_at array column) 0)) vs) (sym same) items)))
    c.lists_fault.result c.lists_fault.ensures

pub returns-clause-some : goal.returns-clause-some
returns-clause-some c =
    let t = typed_of c.args.typed.now in
    let column = c.args.column in
    let array = c.args.array.now in
    let can = c.requires.rows in
    let law = c.lawful_trees.ensures in
    let live = level-live c.args.typed.now c.kinds_of_typed.ensures in
    let is = chunk-is law.root law.parts law.items c.chunks_are_tables.ensures.chunk t array live can.chunk in
    let typed = c.child_kinds-items.ensures.is ∙ ap (λ (l : KindTree). child_at l 0) c.child_kinds-list.ensures.is in
    let lists = c.list_column-lists.ensures in
    let values = listed (item_at (window_of c.list_column-lists.result)) (window_of c.list_column-lists.result).count in
    let same : values ≡ listed (list_at column t array) (tree_items array) = λ j. listed (lists.lists j) (lists.count j) in
    long-by column t array is can.inside column c.flat_kind-kind.result.now values
    (own-kind column t array is can.inside ∙ sym (c.flat_kind-kind.ensures.is ∙ ap kind_in typed))
    (own-values column t array is can.inside ∙ sym same) c.lists_fault.result c.lists_fault.ensures
