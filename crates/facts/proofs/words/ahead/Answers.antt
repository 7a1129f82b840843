use Rattle.std.proofs.Common.{refl}
use Rattle.clap.proofs.OnLiterals.{clap_on_literals}
use Rattle.run_model.specs.promise.Words.{taken_of}
use Rattle.facts.proofs.words.ahead.Goals as goal

pub returns : goal.returns
unfolding taken_of clap_on_literals
returns c = record {
  ahead = refl;
  most_ahead = refl;
  past_ahead = refl;
  no_ahead = refl;
  plus_ahead = refl;
  zero_first_ahead = refl;
  repeated_ahead = refl;
  selftest_ahead = refl;
  check_ahead = refl;
}
