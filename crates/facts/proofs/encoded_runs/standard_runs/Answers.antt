use Rattle.std.proofs.Common.{refl}
use Rattle.facts.proofs.encoded_runs.standard_runs.Goals as goal

pub returns : goal.returns
returns c = record {
  values = refl;
  values_are_lawful = refl;
  runs = refl;
}
