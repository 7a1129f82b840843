use Rattle.std.proofs.Common.{rules, ◌≡◌, ◌∙◌, ◌+◌, ◌++◌, suc, [], ◌∷◌, length, ap, arith, length-append, pos, of_z, to_z, w64}
use Rattle.std.specs.Prelude.{decimal}
use Rattle.std.proofs.lemmas.Int.{to_z_pos}
use Rattle.std.specs.Int.{w128}
use Rattle.data_types.specs.promise.Value.Value.{Whole}
use Rattle.layout_rules.specs.promise.Layout.{natural}
use Rattle.raw_array.specs.promise.Members.{members_of}
use Rattle.union_cols.specs.UnionCols.{array_in, kinds_in}
use Rattle.union_cols.specs.promise.Unions.{id_at, union_value}
use Rattle.union_cols.specs.Unions.{union_item}
use Rattle.value_text.specs.Lengths.{capped, text_length}
use Rattle.data_types.specs.NumberedTexts.{numbered_line}
use Rattle.data_types.specs.promise.ValueTexts.{value_text}
use Rattle.tree_top.specs.AnswerParts.{numbered_item}
use Rattle.tree_top.proofs.union_length.line_length.Goals as goal

pub returns : goal.returns
returns c =
    let u = kinds_in c.args.col.now in
    let array = array_in c.args.col.now in
    let i = c.args.i in
    let own = members_of array in
    let n = natural (id_at own i) in
    let text = value_text (union_value u array i) in
    let place : to_z w64 i ≡ pos i = to_z_pos w64 i c.requires.small in
    let id : c.id.result ≡ n = ap natural (c.id.ensures ∙ ap (λ k. id_at own (natural k)) place) in
    let from : to_z w128 (of_z w128 c.from.result) ≡ pos c.id.result = search rules in
    let digits : c.in_ok-id.id ≡ capped (length (decimal n)) =
    c.in_ok-id.ensures ∙ ap (λ z. text_length (Whole z)) from ∙ ap (λ k. capped (length (decimal k))) id in
    let long : length (numbered_line (numbered_item (union_item u array i))) ≡ length (decimal n) + suc (length text + 1) =
    length-append (decimal n) (32 ∷ (text ++ 10 ∷ [])) ∙ ap (λ k. length (decimal n) + suc k) (length-append text (10 ∷ [])) in
    omega (arith, c.plus.ensures, c.plus-2.ensures, c.value_length.ensures, digits, long)
