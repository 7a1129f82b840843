use Rattle.std.proofs.Common.{◌≡◌, ◌∙◌, ◌+◌, length, ap, arith, length-append}
use Rattle.layout_rules.specs.promise.Values.{each}
use Rattle.union_cols.specs.UnionCols.{array_in, kinds_in}
use Rattle.union_cols.specs.Unions.{union_item}
use Rattle.data_types.specs.NumberedTexts.{numbered_line}
use Rattle.tree_top.specs.AnswerParts.{numbered_item}
use Rattle.tree_top.proofs.UnionLines.{item_lines, lines-more}
use Rattle.tree_top.proofs.union_length.text_length.Goals as goal

pub loop-i-preserved : goal.loop-i-preserved
loop-i-preserved c =
    let f = union_item (kinds_in c.args.col.now) (array_in c.args.col.now) in
    let i = c.loop-i.i in
    let lines = item_lines (each f 0 i) in
    let line = numbered_line (numbered_item (f i)) in
    let long : length (item_lines (each f 0 (i + 1))) ≡ length lines + length line = ap length (lines-more f i) ∙ length-append lines line in
    omega (arith, c.plus-sum.ensures, c.in_ok-line_length.ensures, c.loop-i.invariant, long)
