use Rattle.std.proofs.lemmas.Str.{is_utf8-from_IsUtf8}
use Rattle.text_cases.proofs.columns.push_text.Goals as goal

pub push_text-requires-clause-text : goal.push_text-requires-clause-text
push_text-requires-clause-text c = is_utf8-from_IsUtf8 c.as_bytes.result.now c.as_bytes.ensures.utf8
