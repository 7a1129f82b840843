use Rattle.std.proofs.Common.{refl}
use Rattle.clap.proofs.OnLiterals.{clap_on_literals}
use Rattle.run_model.specs.promise.Words.{taken_of}
use Rattle.facts.proofs.words.stage_words.Goals as goal

pub returns : goal.returns
unfolding taken_of clap_on_literals
returns c = record {
  stage = refl;
  among = refl;
  dashes_stage = refl;
  sixteen = refl;
  seventeen = refl;
  check_seventeen = refl;
  selftest_seventeen = refl;
  both_faults = refl;
  empty_word = refl;
  hyphen_word = refl;
  short = refl;
  help = refl;
  version = refl;
}
