use Rattle.std.proofs.Common.{◌≡◌, length, subst, sym}
use Rattle.layout_rules.specs.promise.Values.{tree_items, value_at}
use Rattle.raw_array.specs.promise.Members.{ArrayTree}
use Rattle.run_ends.specs.RunAnswers.{runs_of}
use Rattle.run_ends.specs.RunCols.{array_in, kinds_in}
use Rattle.run_ends.specs.promise.Runs.{RunTree, run_values}
use Rattle.tree_model.specs.promise.TreeParts.{child_at}
use Rattle.value_text.specs.Lengths.{Tells, capped}
use Rattle.data_types.specs.promise.ValueTexts.{lines_text}
use Rattle.tree_top.proofs.flat.flat_length.Goals as goal

pub text_length-requires : goal.text_length-requires
text_length-requires c =
    let lengths = c.in_ok-lengths.lengths in
    let u = runs_of c.args.typed.now in
    let there : Tells lengths (value_at u.values (child_at c.args.array.now 1)) (tree_items (child_at c.args.array.now 1)) =
    subst (λ (a : ArrayTree). Tells lengths (value_at u.values a) (tree_items a)) c.child.ensures c.in_ok-lengths.ensures in
    subst (λ (w : RunTree). Tells lengths (value_at w.values (child_at (array_in c.of.result) 1)) (tree_items (child_at (array_in c.of.result) 1)))
    (sym c.of.ensures.kinds)
    (subst (λ (a : ArrayTree). Tells lengths (value_at u.values (child_at a 1)) (tree_items (child_at a 1))) (sym c.of.ensures.array) there)

pub returns : goal.returns
returns c =
    let told = c.text_length.result in
    subst (λ (w : RunTree). told ≡ capped (length (lines_text (run_values w c.args.array.now)))) c.of.ensures.kinds
    (subst (λ (a : ArrayTree). told ≡ capped (length (lines_text (run_values (kinds_in c.of.result) a)))) c.of.ensures.array c.text_length.ensures)
