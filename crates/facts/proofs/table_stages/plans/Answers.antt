use Rattle.std.proofs.Common.{refl}
use Rattle.std.specs.Str.{chars, is_utf8}
use Rattle.std.specs.Fmt.{digits}
use lib.Utf8.{encode}
use Rattle.csv.specs.Writing.{escaped, fields_text, is_blank}
use Rattle.csv.proofs.OnLiterals.{csv_on_literals}
use Rattle.facts.proofs.table_stages.plans.Goals as goal

pub returns : goal.returns
unfolding csv_on_literals is_utf8 chars encode escaped fields_text is_blank digits
returns c = record {
  unknown = refl;
  arguments = refl;
  no_column = refl;
  none_left = refl;
  nested = refl;
  named_twice = refl;
  twice_after = refl;
  second_stage = refl;
  dictionary = refl;
  text_totals = refl;
  empty_number = refl;
}
