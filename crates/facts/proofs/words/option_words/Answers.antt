use Rattle.std.proofs.Common.{refl}
use Rattle.clap.proofs.OnLiterals.{clap_on_literals}
use Rattle.run_model.specs.promise.Words.{taken_of}
use Rattle.facts.proofs.words.option_words.Goals as goal

pub returns : goal.returns
unfolding taken_of clap_on_literals
returns c = record {
  none = refl;
  dashes = refl;
  schema = refl;
  attached = refl;
  both = refl;
  hyphen = refl;
  attached_hyphen = refl;
  empty_text = refl;
  empty_word_text = refl;
  no_text = refl;
  dashes_text = refl;
  repeated = refl;
  repeated_flag = refl;
  flag_value = refl;
  null = refl;
  empty_null = refl;
  hyphen_null = refl;
  attached_hyphen_null = refl;
  repeated_null = refl;
}
