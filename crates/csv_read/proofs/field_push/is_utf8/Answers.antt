use Rattle.std.proofs.Common.{◌∙◌, sym}
use Rattle.csv_read.proofs.field_push.is_utf8.Goals as goal

pub returns-then-known : goal.returns-then-known
returns-then-known c = c.if-known.true ∙ sym (c.requires c.if-known.true)
