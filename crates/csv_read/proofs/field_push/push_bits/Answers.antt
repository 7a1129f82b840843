use Rattle.std.proofs.Common.{◌∙◌, ap, sym}
use Rattle.std.specs.Option.{option_map}
use Rattle.csv.proofs.ReadFacts.{on-ok}
use Rattle.data_types.specs.promise.Value.{Bits}
use Rattle.csv_read.proofs.field_push.push_bits.Goals as goal

pub add_bits-requires-clause-takes : goal.add_bits-requires-clause-takes
add_bits-requires-clause-takes c = c.requires.takes (Bits c.in-Some.number) (sym c.read_bits.ensures ∙ ap (option_map Bits) c.in-Some.is)

pub returns-in-Some-clause-added : goal.returns-in-Some-clause-added
returns-in-Some-clause-added c found = (
  Bits c.in-Some.number,
  sym c.read_bits.ensures ∙ ap (option_map Bits) c.in-Some.is,
  on-ok c.add_bits.result (c.outcome.ensures.added found) c.add_bits.ensures.added,
)
