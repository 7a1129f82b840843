use Rattle.std.proofs.Common.{◌≡◌, ◌∙◌, ◌<◌, All, List, replicate, ap, sym, subst, arith}
use Rattle.std.specs.List.{flat_map}
use Rattle.arr_import.specs.Cols.{window_of}
use Rattle.arr_import.specs.Window.{Window, item_at}
use Rattle.column_fill.specs.Gathered.{values_of_runs}
use Rattle.column_fill.specs.declared.runs.Run.{Run}
use Rattle.data_types.specs.promise.Value.{Value}
use Rattle.data_types.specs.promise.KindTrees.{KindTree, kind_in}
use Rattle.data_types.specs.promise.TypedView.{typed_of}
use Rattle.layout_rules.specs.promise.Values.{tree_items}
use Rattle.layout_rules.specs.promise.Walk.{LayoutOk}
use Rattle.array_laws.specs.Items.{IsItemOf}
use Rattle.raw_array.specs.promise.Members.{ArrayTree}
use Rattle.tree_model.specs.promise.TreeParts.{child_at}
use Rattle.column_fill.specs.promise.FlatColumns.{is_flat_column}
use Rattle.list_cols.specs.Spreading.{chunk_runs}
use Rattle.list_cols.proofs.ChunkItems.{flat-live, items-of-runs, other-items, runs-inside}
use Rattle.list_cols.proofs.Chunks.{chunk-is, other-kind, other-values}
use Rattle.list_cols.proofs.Fitting.{fits-by, long-by, other-flat}
use Rattle.list_cols.proofs.Kids.{level-live}
use Rattle.list_cols.proofs.long.other_fault.Goals as goal

pub child-child-requires : goal.child-child-requires
child-child-requires c =
    let t = typed_of c.args.typed.now in
    let law = c.lawful_trees.ensures in
    let root = law.root t c.args.array.now (level-live c.args.typed.now c.kinds_of_typed.ensures) c.requires.rows.chunk.0 in
    omega (arith, root.kids, c.requires.inside)

pub lawful_values_fit-requires-clause-lawful : goal.lawful_values_fit-requires-clause-lawful
lawful_values_fit-requires-clause-lawful c =
    let t = typed_of c.args.typed.now in
    let law = c.lawful_trees.ensures in
    let parts = law.parts t c.args.array.now (level-live c.args.typed.now c.kinds_of_typed.ensures) c.requires.rows.chunk.0 in
    subst (λ (k : KindTree). LayoutOk k c.child-child.result.now) (sym c.child_kinds-kid.ensures.is)
    (subst (λ (a : ArrayTree). LayoutOk (child_at t c.args.k) a) (sym c.child-child.ensures) (parts.kids c.args.k c.requires.inside))

pub flat_kind-kind-requires-clause-flat : goal.flat_kind-kind-requires-clause-flat
flat_kind-kind-requires-clause-flat c =
    let t = typed_of c.args.typed.now in
    let can = c.requires.rows in
    ap is_flat_column c.child_kinds-kid.ensures.is ∙ other-flat c.args.column t can.fitting c.args.k c.requires.inside c.requires.other

pub of-items-requires-clause-lawful : goal.of-items-requires-clause-lawful
of-items-requires-clause-lawful c =
    let t = typed_of c.args.typed.now in
    let law = c.lawful_trees.ensures in
    let parts = law.parts t c.args.array.now (level-live c.args.typed.now c.kinds_of_typed.ensures) c.requires.rows.chunk.0 in
    subst (λ (k : KindTree). LayoutOk k c.child-child.result.now) (sym c.child_kinds-kid.ensures.is)
    (subst (λ (a : ArrayTree). LayoutOk (child_at t c.args.k) a) (sym c.child-child.ensures) (parts.kids c.args.k c.requires.inside))

pub runs_fault-requires-clause-inside : goal.runs_fault-requires-clause-inside
runs_fault-requires-clause-inside c =
    let t = typed_of c.args.typed.now in
    let array = c.args.array.now in
    let can = c.requires.rows in
    let law = c.lawful_trees.ensures in
    let live = level-live c.args.typed.now c.kinds_of_typed.ensures in
    let is = chunk-is law.root law.parts law.items c.chunks_are_tables.ensures.chunk t array live can.chunk in
    let flat = other-flat c.args.column t can.fitting c.args.k c.requires.inside c.requires.other in
    let many = ap (λ (w : Window). w.count) c.of-items.ensures.window ∙ ap tree_items c.child-child.ensures in
    subst (λ (runs : List Run). All (λ (run : Run). run.item < (window_of c.of-items.result).count) runs) (sym c.requires.runs)
    (subst (λ n. All (λ (run : Run). run.item < n) (chunk_runs c.args.column t array)) (sym many)
    (runs-inside c.args.column t array is can.inside c.args.k (flat-live (child_at t c.args.k) flat)))

pub runs_fault-requires-clause-near : goal.runs_fault-requires-clause-near
runs_fault-requires-clause-near c =
    let t = typed_of c.args.typed.now in
    let can = c.requires.rows in
    let law = c.lawful_trees.ensures in
    let parts = law.parts t c.args.array.now (level-live c.args.typed.now c.kinds_of_typed.ensures) can.chunk.0 in
    let flat = other-flat c.args.column t can.fitting c.args.k c.requires.inside c.requires.other in
    let many = ap (λ (w : Window). w.count) c.of-items.ensures.window ∙ ap tree_items c.child-child.ensures in
    omega (arith, many, parts.few c.args.k (flat-live (child_at t c.args.k) flat))

pub returns-clause-none : goal.returns-clause-none
returns-clause-none c =
    let t = typed_of c.args.typed.now in
    let column = c.args.column in
    let k = c.args.k in
    let array = c.args.array.now in
    let can = c.requires.rows in
    let law = c.lawful_trees.ensures in
    let live = level-live c.args.typed.now c.kinds_of_typed.ensures in
    let is = chunk-is law.root law.parts law.items c.chunks_are_tables.ensures.chunk t array live can.chunk in
    let flat = other-flat column t can.fitting k c.requires.inside c.requires.other in
    let kid = typed_of c.child_kinds-kid.result.now in
    let child = c.child-child.result.now in
    let w = window_of c.of-items.result in
    let f : Run → List Value = λ run. replicate run.times (item_at w run.item) in
    let values = flat_map f c.args.runs.now in
    let same : values ≡ values_of_runs (child_at t k) (child_at array k) (chunk_runs column t array) =
    items-of-runs w kid child c.args.runs.now c.of-items.ensures.window
    ∙ (λ j. values_of_runs (c.child_kinds-kid.ensures.is j) (c.child-child.ensures j) (c.requires.runs j)) in
    fits-by column t array is can.inside c.requires.few k kid child c.flat_kind-kind.result.now values
    (other-kind column t array is can.inside k c.requires.other c.requires.inside ∙ sym (c.flat_kind-kind.ensures.is ∙ ap kind_in c.child_kinds-kid.ensures.is))
    (other-values column t array is can.inside k c.requires.other c.requires.inside ∙ sym same)
    c.lawful_values_fit.ensures.items c.flat_kind-kind.ensures.typed c.flat_kind-kind.ensures.form
    (subst (λ (x : KindTree). All (IsItemOf x child) values) (sym c.child_kinds-kid.ensures.is)
    (subst (λ (a : ArrayTree). All (IsItemOf (child_at t k) a) values) (sym c.child-child.ensures)
    (subst (λ (vs : List Value). All (IsItemOf (child_at t k) (child_at array k)) vs) (sym same)
    (other-items column t array is can.inside k (flat-live (child_at t k) flat)))))
    c.runs_fault.result c.runs_fault.ensures

pub returns-clause-some : goal.returns-clause-some
returns-clause-some c =
    let t = typed_of c.args.typed.now in
    let column = c.args.column in
    let k = c.args.k in
    let array = c.args.array.now in
    let can = c.requires.rows in
    let law = c.lawful_trees.ensures in
    let live = level-live c.args.typed.now c.kinds_of_typed.ensures in
    let is = chunk-is law.root law.parts law.items c.chunks_are_tables.ensures.chunk t array live can.chunk in
    let kid = typed_of c.child_kinds-kid.result.now in
    let child = c.child-child.result.now in
    let w = window_of c.of-items.result in
    let f : Run → List Value = λ run. replicate run.times (item_at w run.item) in
    let values = flat_map f c.args.runs.now in
    let same : values ≡ values_of_runs (child_at t k) (child_at array k) (chunk_runs column t array) =
    items-of-runs w kid child c.args.runs.now c.of-items.ensures.window
    ∙ (λ j. values_of_runs (c.child_kinds-kid.ensures.is j) (c.child-child.ensures j) (c.requires.runs j)) in
    long-by column t array is can.inside k c.flat_kind-kind.result.now values
    (other-kind column t array is can.inside k c.requires.other c.requires.inside ∙ sym (c.flat_kind-kind.ensures.is ∙ ap kind_in c.child_kinds-kid.ensures.is))
    (other-values column t array is can.inside k c.requires.other c.requires.inside ∙ sym same) c.runs_fault.result c.runs_fault.ensures
