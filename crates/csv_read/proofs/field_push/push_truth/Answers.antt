use Rattle.std.proofs.Common.{◌∙◌, ap, sym}
use Rattle.std.specs.Option.{option_map}
use Rattle.csv.proofs.ReadFacts.{on-ok}
use Rattle.data_types.specs.promise.Value.{Truth}
use Rattle.csv_read.proofs.field_push.push_truth.Goals as goal

pub add_truth-requires : goal.add_truth-requires
add_truth-requires c = record { takes = c.requires.takes (Truth c.in-Some.truth) (sym c.read_truth.ensures ∙ ap (option_map Truth) c.in-Some.is) }

pub returns-in-Some-clause-added : goal.returns-in-Some-clause-added
returns-in-Some-clause-added c found = (
  Truth c.in-Some.truth,
  sym c.read_truth.ensures ∙ ap (option_map Truth) c.in-Some.is,
  on-ok c.add_truth.result (c.outcome.ensures.added found) c.add_truth.ensures.added,
)
