use Rattle.std.proofs.Common.{rules, ◌≡◌, subst}
use Rattle.std.specs.Prelude.{IsUtf8}
use Rattle.std.proofs.lemmas.Str.{IsUtf8-from_is_utf8}
use Rattle.buf_block.proofs.hold.Hold.is_text.Goals as goal

pub returns : goal.returns
returns c =
    let block = c.deref.result.now in
    let same : block.bytes.items ≡ c.args.self.now.bytes = search rules in
    λ marked. subst IsUtf8 same (IsUtf8-from_is_utf8 block.bytes.items (block.tested marked))
