use Rattle.std.proofs.Common.{◌∙◌, sym}
use Rattle.value_text.proofs.PlainBytes.{plain_bytes}
use Rattle.value_text.proofs.escapes.push_escaped.Goals as goal

pub returns-then-are_plain : goal.returns-then-are_plain
returns-then-are_plain c =
    let same = plain_bytes c.args.bytes.now (sym c.are_plain.ensures ∙ c.if-are_plain.true) in
    rw same c.push_bytes.ensures
