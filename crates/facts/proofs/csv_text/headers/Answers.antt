use Rattle.std.proofs.Common.{refl}
use Rattle.std.specs.Str.{chars, is_utf8}
use lib.Utf8.{encode}
use Rattle.csv.proofs.OnLiterals.{csv_on_literals}
use Rattle.facts.proofs.csv_text.headers.Goals as goal

pub returns : goal.returns
unfolding csv_on_literals is_utf8 chars encode
returns c = record {
  no_record = refl;
  blank_lines = refl;
  all_text = refl;
  asked = refl;
  first_asked = refl;
  not_text = refl;
  twice = refl;
  first_twice = refl;
  empty_names = refl;
  unknown = refl;
  second_unknown = refl;
  twice_before_unknown = refl;
  most = refl;
  too_many = refl;
}
