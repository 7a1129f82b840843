use Rattle.std.proofs.lemmas.Str.{is_utf8-from_IsUtf8}
use Rattle.buf_block.proofs.hold.make_text.Goals as goal

pub make_marked-requires-clause-text : goal.make_marked-requires-clause-text
make_marked-requires-clause-text c = λ _. is_utf8-from_IsUtf8 c.args.bytes.items c.requires.text
