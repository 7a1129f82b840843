use Rattle.std.proofs.Common.{◌≡◌, subst}
use Rattle.std.specs.Prelude.{IfOk}
use Rattle.raw_array.specs.promise.Members.{ArrayTree}
use Rattle.union_cols.specs.UnionCols.{kinds_in}
use Rattle.union_cols.specs.promise.Unions.{UnionTree, union_items}
use Rattle.tree_top.specs.promise.UnionAnswer.{items_text}
use Rattle.tree_top.proofs.union.measured_lines.Goals as goal

pub returns : goal.returns
returns c =
    let told = c.lines.result in
    subst (λ (w : UnionTree). IfOk told (λ text. text.items ≡ items_text (union_items w c.args.array.now))) c.of.ensures.kinds
    (subst (λ (a : ArrayTree). IfOk told (λ text. text.items ≡ items_text (union_items (kinds_in c.of.result) a))) c.of.ensures.array c.lines.ensures)
