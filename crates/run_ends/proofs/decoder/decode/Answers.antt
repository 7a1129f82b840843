use Rattle.std.proofs.Common.{◌≡◌, ◌∙◌, None, ap, sym}
use Rattle.arr_export.specs.promise.ArrayTrees.{column_tree}
use Rattle.data_types.specs.declared.kind.DataType.{DataType}
use Rattle.data_types.specs.promise.KindTrees.{KindTree}
use Rattle.data_types.specs.promise.TypedView.{typed_of}
use Rattle.layout_rules.specs.promise.Values.{values_of}
use Rattle.run_ends.specs.RunAnswers.{runs_of}
use Rattle.run_ends.specs.promise.Runs.{run_values}
use Rattle.run_ends.proofs.decoder.decode.Goals as goal

pub returns-in-Ok-clause-items : goal.returns-in-Ok-clause-items
returns-in-Ok-clause-items c =
    let t = typed_of c.args.typed.now.values in
    let values = run_values (runs_of c.args.typed.now) c.args.array.now in
    let kind = c.flat_kind-kind.result.now in
    ap (values_of t) c.in-Ok.ensures.tree
    ∙ ap (λ (k : DataType). values_of t (column_tree k values None)) (sym c.flat_kind-kind.ensures.is)
    ∙ ap (λ (s : KindTree). values_of s (column_tree kind values None)) c.flat_kind-kind.ensures.typed
    ∙ c.encoded_columns_are_lawful.ensures.values kind values c.items_fit.ensures
