use Rattle.std.proofs.Common.{◌∙◌, ap, sym}
use Rattle.std.specs.Option.{option_map}
use Rattle.csv.proofs.ReadFacts.{on-ok}
use Rattle.data_types.specs.promise.Value.{Bytes}
use Rattle.csv_read.proofs.field_push.push_eight.Goals as goal

pub add_bytes-requires : goal.add_bytes-requires
add_bytes-requires c = record { takes = c.requires.takes (Bytes c.in-Some.eight) (ap (option_map Bytes) (sym c.read_eight_bytes.ensures ∙ c.in-Some.is)) }

pub returns-in-Some-clause-added : goal.returns-in-Some-clause-added
returns-in-Some-clause-added c found = (
  Bytes c.in-Some.eight,
  ap (option_map Bytes) (sym c.read_eight_bytes.ensures ∙ c.in-Some.is),
  on-ok c.add_bytes.result (c.outcome.ensures.added found) c.add_bytes.ensures.added,
)
