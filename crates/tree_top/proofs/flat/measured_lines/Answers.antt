use Rattle.std.proofs.Common.{◌≡◌, subst}
use Rattle.std.specs.Prelude.{IfOk}
use Rattle.raw_array.specs.promise.Members.{ArrayTree}
use Rattle.run_ends.specs.RunCols.{kinds_in}
use Rattle.run_ends.specs.promise.Runs.{RunTree, run_values}
use Rattle.data_types.specs.promise.ValueTexts.{lines_text}
use Rattle.tree_top.proofs.flat.measured_lines.Goals as goal

pub returns : goal.returns
returns c =
    let told = c.lines.result in
    subst (λ (w : RunTree). IfOk told (λ text. text.items ≡ lines_text (run_values w c.args.array.now))) c.of.ensures.kinds
    (subst (λ (a : ArrayTree). IfOk told (λ text. text.items ≡ lines_text (run_values (kinds_in c.of.result) a))) c.of.ensures.array c.lines.ensures)
