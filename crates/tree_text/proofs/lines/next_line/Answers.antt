use Rattle.std.proofs.Common.{ℕ, ◌≡◌, ◌+◌, ◌∷◌, length, drop, sym, ap, ◌∙◌, arith}
use Rattle.std.specs.Str.Lines.{lines}
use Rattle.std.proofs.lemmas.List.{drop-drop}
use Rattle.tree_text.proofs.Cuts.{lines_cut}
use Rattle.tree_text.proofs.lines.next_line.Goals as goal

pub returns-in-Some-clause-taken : goal.returns-in-Some-clause-taken
returns-in-Some-clause-taken c =
    let bytes = c.args.bytes.now in
    let at = c.args.at in
    let line = c.in-Some.line.now in
    let behind = c.in-Some.field-0-1.now in
    let place : at + (length line + 1) ≡ at + length line + 1 = omega arith in
    let rest = c.split_at.result.1.now in
    let back : rest ≡ drop at bytes = c.split_at.ensures.back in
    let here : behind ≡ drop (at + length line + 1) bytes =
    c.in-Some.ensures.behind ∙ ap (drop (length line + 1)) back ∙ drop-drop (length line + 1) at bytes ∙ ap (λ (n : ℕ). drop n bytes) place in
    let first = sym c.without_return.ensures in
    ap lines (sym back) ∙ lines_cut line rest behind c.in-Some.ensures.parts ∙ (λ i. first i ∷ lines (here i))
