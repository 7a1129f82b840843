use Rattle.std.proofs.Common.{◌≡◌, ◌∙◌, ap}
use Rattle.arr_import.specs.Cols.{window_of}
use Rattle.arr_import.specs.Window.{Window, whole}
use Rattle.data_types.specs.promise.TypedView.{typed_of}
use Rattle.tree_model.specs.promise.TreeParts.{child_at}
use Rattle.run_ends.specs.promise.Runs.{run_count}
use Rattle.run_ends.specs.Runs.{value_count}
use Rattle.run_ends.specs.RunRules.{end_answers, first_answer}
use Rattle.run_ends.proofs.Holding.{items-shown}
use Rattle.run_ends.proofs.check.check_ends.Goals as goal

pub returns : goal.returns
returns c =
    let array = c.args.array.now in
    let ends = typed_of c.args.typed.now.ends in
    let values = typed_of c.args.typed.now.values in
    let these : window_of c.of-ends.result ≡ whole ends (child_at array 0) = c.of-ends.ensures.window ∙ ap (whole ends) c.child.ensures in
    let those : window_of c.of-values.result ≡ whole values (child_at array 1) = c.of-values.ensures.window ∙ ap (whole values) c.child-2.ensures in
    let shown = items-shown (window_of c.of-ends.result) ends (child_at array 0) these in
    let runs : (window_of c.of-ends.result).count ≡ run_count array = ap (λ (w : Window). w.count) these in
    let many : c.count.result ≡ value_count array = c.count.ensures ∙ ap (λ (w : Window). w.count) those in
    c.check_cols.ensures ∙ (λ j. first_answer (end_answers (shown j) (runs j) (many j) (c.stop.ensures j)))
