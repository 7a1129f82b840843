use Rattle.std.proofs.Common.{◌≡◌, ◌+◌, ◌<◌, [], ◌∷◌, length, ap, arith, length-append}
use Rattle.arr_import.specs.Window.{Window}
use Rattle.run_ends.specs.RunCols.{array_in, kinds_in}
use Rattle.run_ends.specs.Runs.{run_value}
use Rattle.layout_rules.specs.promise.Values.{tree_items, value_at}
use Rattle.tree_model.specs.promise.TreeParts.{child_at}
use Rattle.value_text.specs.Lengths.{length_at, text_length}
use Rattle.value_text.proofs.LengthSums.{are-reached, length-there}
use Rattle.data_types.specs.promise.ValueTexts.{value_line, value_text}
use Rattle.tree_top.proofs.flat.line_length.Goals as goal

pub at-requires : goal.at-requires
at-requires c =
    let u = kinds_in c.args.col.now in
    let array = array_in c.args.col.now in
    let count = ap (λ (w : Window). w.count) c.values-values.ensures.window in
    are-reached c.args.lengths.now (value_at u.values (child_at array 1)) (tree_items (child_at array 1)) (c.args.run + 1) c.requires.lengths
    (omega (arith, c.requires.at, c.count_values.ensures.stored c.args.i c.requires.inside, count))

pub returns : goal.returns
returns c =
    let u = kinds_in c.args.col.now in
    let array = array_in c.args.col.now in
    let run = c.args.run in
    let there = value_at u.values (child_at array 1) run in
    let value = run_value u array c.args.i in
    let count = ap (λ (w : Window). w.count) c.values-values.ensures.window in
    let inside : run < tree_items (child_at array 1) =
    omega (arith, c.requires.at, c.count_values.ensures.stored c.args.i c.requires.inside, count) in
    let same : length (value_text there) ≡ length (value_text value) =
    ap (λ k. length (value_text (value_at u.values (child_at array 1) k))) c.requires.at in
    let one : length_at c.args.lengths.now run ≡ text_length there =
    length-there c.args.lengths.now (value_at u.values (child_at array 1)) (tree_items (child_at array 1)) run c.requires.lengths inside in
    let long : length (value_line value) ≡ length (value_text value) + 1 = length-append (value_text value) (10 ∷ []) in
    omega (arith, c.plus.ensures, c.at.ensures, one, same, long)
