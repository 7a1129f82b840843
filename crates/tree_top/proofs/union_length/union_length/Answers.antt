use Rattle.std.proofs.Common.{rules, ◌≡◌, List, length, subst, sym, IfOk}
use Rattle.raw_array.specs.promise.Members.{ArrayTree}
use Rattle.union_cols.specs.UnionAnswers.{union_of}
use Rattle.union_cols.specs.UnionCols.{array_in, kinds_in}
use Rattle.union_cols.specs.promise.Unions.{UnionTree, union_items}
use Rattle.value_text.specs.Lengths.{TellsKids, capped}
use Rattle.value_text.specs.declared.lengths.Lengths.{Lengths}
use Rattle.tree_top.specs.promise.UnionAnswer.{items_text}
use Rattle.tree_top.proofs.union_length.union_length.Goals as goal

pub text_length-requires : goal.text_length-requires
text_length-requires c =
    let lengths = c.deref.result.now in
    let same : c.in_ok-kids.kids.items ≡ lengths = search rules in
    let u = union_of c.args.typed.now in
    subst (λ (w : UnionTree). TellsKids lengths w.kids (array_in c.of.result) (length w.kids)) (sym c.of.ensures.kinds)
    (subst (λ (a : ArrayTree). TellsKids lengths u.kids a (length u.kids)) (sym c.of.ensures.array)
    (subst (λ (ls : List Lengths). TellsKids ls u.kids c.args.array.now (length u.kids)) same c.in_ok-kids.ensures))

pub returns : goal.returns
returns c =
    let told = c.text_length.result in
    subst (λ (w : UnionTree). IfOk told (λ count. count ≡ capped (length (items_text (union_items w c.args.array.now))))) c.of.ensures.kinds
    (subst (λ (a : ArrayTree). IfOk told (λ count. count ≡ capped (length (items_text (union_items (kinds_in c.of.result) a))))) c.of.ensures.array
    c.text_length.ensures)
