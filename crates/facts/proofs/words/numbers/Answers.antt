use Rattle.std.proofs.Common.{refl}
use Rattle.clap.proofs.OnLiterals.{clap_on_literals}
use Rattle.run_model.specs.promise.Words.{taken_of}
use Rattle.facts.proofs.words.numbers.Goals as goal

pub returns : goal.returns
unfolding taken_of clap_on_literals
returns c = record {
  batch = refl;
  most_batch = refl;
  past_batch = refl;
  no_batch = refl;
  zero_first = refl;
  plus_first = refl;
  minus_first = refl;
  other_last = refl;
  empty_batch = refl;
  repeated_batch = refl;
  workers = refl;
  most_workers = refl;
  past_workers = refl;
  no_workers = refl;
  zero_first_workers = refl;
  repeated_workers = refl;
}
