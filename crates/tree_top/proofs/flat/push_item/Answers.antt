use Rattle.std.proofs.Common.{◌≡◌, ◌∙◌, ◌+◌, ◌++◌, [], ◌∷◌, ap, arith}
use Rattle.arr_import.specs.Cols.{window_of}
use Rattle.arr_import.specs.Window.{item_at}
use Rattle.run_ends.specs.RunCols.{array_in, kinds_in}
use Rattle.run_ends.specs.promise.Runs.{run_of}
use Rattle.run_ends.specs.Runs.{run_value}
use Rattle.tree_model.specs.promise.TreeParts.{child_at}
use Rattle.layout_rules.specs.promise.Values.{value_at}
use Rattle.data_types.specs.promise.ValueTexts.{value_text}
use Rattle.value_text.proofs.Parts.{both-appended}
use Rattle.tree_top.proofs.flat.push_item.Goals as goal

pub returns : goal.returns
returns c =
    let u = kinds_in c.args.col.now in
    let array = array_in c.args.col.now in
    let place : 0 + c.args.run ≡ run_of u array c.args.i = omega (arith, c.requires.at) in
    let value : item_at (window_of c.values.result) c.args.run ≡ run_value u array c.args.i =
    ap (λ w. item_at w c.args.run) c.values.ensures.window ∙ ap (value_at u.values (child_at array 1)) place in
    both-appended c.push.result c.args.text.now c.push_value.new.text c.push.new.self (value_text (run_value u array c.args.i)) (10 ∷ [])
    (c.in_ok-push_value.ensures ∙ ap (λ v. c.args.text.now ++ value_text v) value) c.push.ensures
