use Rattle.std.proofs.Common.{sym}
use Rattle.layout_rules.specs.promise.Values.{each}
use Rattle.union_cols.specs.UnionCols.{array_in, kinds_in}
use Rattle.data_types.specs.NumberedTexts.{numbered_line}
use Rattle.value_text.proofs.Parts.{appended}
use Rattle.union_cols.specs.Unions.{union_item}
use Rattle.tree_top.specs.AnswerParts.{numbered_item}
use Rattle.tree_top.proofs.UnionLines.{item_lines, lines-more}
use Rattle.tree_top.proofs.union.push_items.Goals as goal

pub loop-i-preserved : goal.loop-i-preserved
loop-i-preserved c =
    let f = union_item (kinds_in c.args.col.now) (array_in c.args.col.now) in
    appended c.args.text.now (item_lines (each f 0 c.loop-i.i)) c.loop-i.text c.push_item.new.text (numbered_line (numbered_item (f c.loop-i.i))) _
    c.in_ok-push_item.ensures c.loop-i.invariant (sym (lines-more f c.loop-i.i))
