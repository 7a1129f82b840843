use Rattle.std.proofs.Common.{◌∙◌, sym}
use Rattle.csv.proofs.ReadFacts.{on-ok}
use Rattle.data_types.specs.promise.Value.{Bytes}
use Rattle.csv_read.proofs.FieldPush.{text-reads}
use Rattle.csv_read.proofs.field_push.push_text.Goals as goal

pub add_bytes-requires : goal.add_bytes-requires
add_bytes-requires c = record { takes = c.requires.takes (Bytes c.args.text.now) (text-reads c.args.text.now (sym c.is_utf8.ensures ∙ c.if-not-is_utf8.false)) }

pub returns-clause-added : goal.returns-clause-added
returns-clause-added c found = (
  Bytes c.args.text.now,
  text-reads c.args.text.now (sym c.is_utf8.ensures ∙ c.if-not-is_utf8.false),
  on-ok c.add_bytes.result (c.outcome.ensures.added found) c.add_bytes.ensures.added,
)
