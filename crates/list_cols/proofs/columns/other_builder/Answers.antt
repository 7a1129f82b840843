use Rattle.std.proofs.Common.{◌≡◌, ◌∙◌, ◌<◌, All, List, ap, sym, subst, arith}
use Rattle.std.specs.Prelude.{IfOk}
use Rattle.col_build.specs.Encoding.{Fits}
use Rattle.col_build.specs.Holding.{Holds}
use Rattle.column_fill.specs.Gathered.{values_of_runs}
use Rattle.column_fill.specs.declared.runs.Run.{Run}
use Rattle.data_types.specs.promise.Table.{Flat}
use Rattle.data_types.specs.promise.Value.{Value}
use Rattle.data_types.specs.declared.kind.DataType.{DataType}
use Rattle.data_types.specs.promise.ColumnKinds.{type_of_kind}
use Rattle.data_types.specs.promise.KindTrees.{KindTree, kind_in}
use Rattle.data_types.specs.promise.TypedView.{typed_of}
use Rattle.layout_rules.specs.promise.Values.{tree_items}
use Rattle.layout_rules.specs.promise.Walk.{LayoutOk}
use Rattle.raw_array.specs.promise.Members.{ArrayTree}
use Rattle.tree_model.specs.promise.TreeParts.{child_at}
use Rattle.column_fill.specs.promise.FlatColumns.{is_flat_column}
use Rattle.list_cols.specs.Spreading.{chunk_runs, spread_values}
use Rattle.list_cols.proofs.ChunkItems.{flat-live, runs-inside}
use Rattle.list_cols.proofs.Chunks.{chunk-is, other-kind, other-values}
use Rattle.list_cols.proofs.Fitting.{other-flat}
use Rattle.list_cols.proofs.Kids.{level-live}
use Rattle.list_cols.proofs.columns.other_builder.Goals as goal

pub child-requires : goal.child-requires
child-requires c =
    let t = typed_of c.args.typed.now in
    let law = c.lawful_trees.ensures in
    let root = law.root t c.args.array.now (level-live c.args.typed.now c.kinds_of_typed.ensures) c.requires.rows.chunk.0 in
    omega (arith, root.kids, c.requires.inside)

pub flat_kind-requires-clause-flat : goal.flat_kind-requires-clause-flat
flat_kind-requires-clause-flat c =
    let t = typed_of c.args.typed.now in
    let can = c.requires.rows in
    ap is_flat_column c.child_kinds-kid.ensures.is ∙ other-flat c.args.column t can.fitting c.args.k c.requires.inside c.requires.other

pub gathered_runs-requires-clause-items : goal.gathered_runs-requires-clause-items
gathered_runs-requires-clause-items c =
    let t = typed_of c.args.typed.now in
    let column = c.args.column in
    let k = c.args.k in
    let array = c.args.array.now in
    let can = c.requires.rows in
    let law = c.lawful_trees.ensures in
    let live = level-live c.args.typed.now c.kinds_of_typed.ensures in
    let is = chunk-is law.root law.parts law.items c.chunks_are_tables.ensures.chunk t array live can.chunk in
    let kid = typed_of c.child_kinds-kid.result.now in
    let child = c.child.result.now in
    let kind = c.flat_kind.result.now in
    let runs = c.args.runs.now in
    let type : type_of_kind (Flat kind) ≡ child_at t k = sym c.flat_kind.ensures.typed ∙ c.child_kinds-kid.ensures.is in
    let values = values_of_runs (type_of_kind (Flat kind)) child runs in
    let same : values ≡ values_of_runs (child_at t k) (child_at array k) (chunk_runs column t array) =
    λ j. values_of_runs (type j) (c.child.ensures j) (c.requires.runs j) in
    let kinds = other-kind column t array is can.inside k c.requires.other c.requires.inside ∙ sym (c.flat_kind.ensures.is ∙ ap kind_in c.child_kinds-kid.ensures.is) in
    let are = other-values column t array is can.inside k c.requires.other c.requires.inside ∙ sym same in
    let flat = other-flat column t can.fitting k c.requires.inside c.requires.other in
    record {
      ok = subst (λ (x : KindTree). LayoutOk x child) (sym type) (subst (λ (a : ArrayTree). LayoutOk (child_at t k) a) (sym c.child.ensures) (is.parts.kids k c.requires.inside));
      inside = subst (λ (rs : List Run). All (λ (run : Run). run.item < tree_items child) rs) (sym c.requires.runs)
          (subst (λ (a : ArrayTree). All (λ (run : Run). run.item < tree_items a) (chunk_runs column t array)) (sym c.child.ensures)
          (runs-inside column t array is can.inside k (flat-live (child_at t k) flat)));
      items = subst (Fits kind) are (subst (λ (d : DataType). Fits d (spread_values column t array k)) kinds c.requires.fits);
    }

pub returns : goal.returns
returns c =
    let t = typed_of c.args.typed.now in
    let column = c.args.column in
    let k = c.args.k in
    let array = c.args.array.now in
    let can = c.requires.rows in
    let law = c.lawful_trees.ensures in
    let live = level-live c.args.typed.now c.kinds_of_typed.ensures in
    let is = chunk-is law.root law.parts law.items c.chunks_are_tables.ensures.chunk t array live can.chunk in
    let kid = typed_of c.child_kinds-kid.result.now in
    let child = c.child.result.now in
    let kind = c.flat_kind.result.now in
    let runs = c.args.runs.now in
    let type : type_of_kind (Flat kind) ≡ child_at t k = sym c.flat_kind.ensures.typed ∙ c.child_kinds-kid.ensures.is in
    let values = values_of_runs (type_of_kind (Flat kind)) child runs in
    let same : values ≡ values_of_runs (child_at t k) (child_at array k) (chunk_runs column t array) =
    λ j. values_of_runs (type j) (c.child.ensures j) (c.requires.runs j) in
    let kinds = other-kind column t array is can.inside k c.requires.other c.requires.inside ∙ sym (c.flat_kind.ensures.is ∙ ap kind_in c.child_kinds-kid.ensures.is) in
    let are = other-values column t array is can.inside k c.requires.other c.requires.inside ∙ sym same in
    subst (λ (d : DataType). IfOk c.gathered_runs.result (λ builder. Holds builder d (spread_values column t array k))) (sym kinds)
    (subst (λ (vs : List Value). IfOk c.gathered_runs.result (λ builder. Holds builder kind vs)) (sym are) c.gathered_runs.ensures)
