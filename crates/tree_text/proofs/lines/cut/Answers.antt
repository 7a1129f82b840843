use Rattle.std.proofs.Common.{ℕ, List, ◌+◌, ◌-◌, ◌==◌, ◌∷◌, length, take, drop, sym, ap, ◌∙◌, arith}
use Rattle.std.specs.List.{slice_split}
use Rattle.std.proofs.lemmas.List.{take_all, length-drop}
use Rattle.tree_text.proofs.Cuts.{cut_at, not_cut}
use Rattle.tree_text.proofs.lines.cut.Goals as goal

pub returns-in-Some-clause-parts : goal.returns-in-Some-clause-parts
returns-in-Some-clause-parts c =
    let p = λ (b : ℕ). b == c.args.byte in
    let text = c.args.text.now in
    let at = c.in-Some.at in
    let found = cut_at p text at (sym c.in-Some.ensures) in
    let rest = drop (at + 1) text in
    let all = take_all (length text - (at + 1)) rest (omega (arith, length-drop (at + 1) text)) in
    found.parts ∙ ap (λ (x : List ℕ). take at text ∷ slice_split p x) (sym all)

pub returns-in-None-clause-none : goal.returns-in-None-clause-none
returns-in-None-clause-none c = not_cut (λ (b : ℕ). b == c.args.byte) c.args.text.now (sym c.in-None.ensures)
