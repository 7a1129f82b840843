use Rattle.std.proofs.Common.{refl}
use Rattle.std.specs.Fmt.{digits}
use Rattle.facts.proofs.statuses.run_statuses.Goals as goal

pub returns : goal.returns
unfolding digits
returns c = record {
  none = refl;
  words = refl;
  stage = refl;
  plan = refl;
  record_of_two = refl;
  too_long = refl;
  read = refl;
  write = refl;
  memory = refl;
  no_line = refl;
  words_line = refl;
  header_line = refl;
  plan_line = refl;
  ragged_line = refl;
  field_line = refl;
  write_line = refl;
  audit_line = refl;
}
