use Rattle.std.proofs.Common.{◌≡◌, ◌+◌, false, get_or, drop, sym, ap, ◌∙◌, arith, length-drop}
use Rattle.tree_text.specs.promise.TreeText.{is_plain}
use Rattle.tree_text.specs.promise.Standing.{read_bytes}
use Rattle.tree_text.proofs.TokenBytes.{front, read_short}
use Rattle.tree_text.proofs.tokens.byte_at.Goals as goal

pub returns-then-text-at-lt3-clause-none : goal.returns-then-text-at-lt3-clause-none
returns-then-text-at-lt3-clause-none c =
    let text = c.args.text.now in
    let at = c.args.at in
    let rest = drop (at + 1) text in
    let other : is_plain (get_or text at 0) ≡ false = sym c.is_plain.ensures ∙ c.if-is_plain.false in
    ap read_bytes (front text at c.requires) ∙ read_short (get_or text at 0) rest other (omega (arith, length-drop (at + 1) text))
