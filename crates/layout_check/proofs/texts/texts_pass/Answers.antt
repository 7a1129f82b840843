use Rattle.std.proofs.Common.{arith}
use Rattle.layout_rules.proofs.Long.{long}
use Rattle.layout_check.proofs.texts.texts_pass.Goals as goal

pub view_texts_pass-requires-clause-validity : goal.view_texts_pass-requires-clause-validity
view_texts_pass-requires-clause-validity c = grind (arith, long)

pub view_texts_pass-requires-clause-long : goal.view_texts_pass-requires-clause-long
view_texts_pass-requires-clause-long c = grind (arith, long)

pub view_texts_pass-requires-clause-named : goal.view_texts_pass-requires-clause-named
view_texts_pass-requires-clause-named c = grind (arith, long)
