use Rattle.std.proofs.Common.{refl}
use Rattle.clap.proofs.OnLiterals.{clap_on_literals}
use Rattle.run_model.specs.promise.Words.{taken_of}
use Rattle.facts.proofs.words.words_together.Goals as goal

pub returns : goal.returns
unfolding taken_of clap_on_literals
returns c = record {
  check = refl;
  check_among = refl;
  repeated_check = refl;
  check_stage = refl;
  check_schema = refl;
  check_batch = refl;
  selftest = refl;
  most_selftest = refl;
  past_selftest = refl;
  no_selftest = refl;
  zero_first_selftest = refl;
  repeated_selftest = refl;
  selftest_among = refl;
  made = refl;
  selftest_stage = refl;
  selftest_schema = refl;
  selftest_check = refl;
  none_made = refl;
  check_stage_selftest = refl;
  selftest_number_stage = refl;
}
