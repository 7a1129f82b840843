use Rattle.std.proofs.Common.{refl}
use Rattle.std.specs.Str.{chars, is_utf8}
use lib.Utf8.{encode}
use Rattle.facts.proofs.encoded_runs.run_arrays.Goals as goal

pub returns : goal.returns
unfolding is_utf8 chars encode
returns c =
    record {
      window = refl;
      window_is_lawful = refl;
      own_window = refl;
      own_window_is_lawful = refl;
      far = refl;
      far_is_lawful = refl;
      none_is_lawful = refl;
      still = refl;
      at_zero = refl;
      null = refl;
      values = refl;
      ends = refl;
      no_runs = refl;
      too_far = refl;
    }
