use Rattle.std.proofs.Common.{refl}
use Rattle.std.specs.Str.{chars, is_utf8}
use Rattle.std.specs.Fmt.{digits}
use lib.Utf8.{encode}
use Rattle.csv.specs.Writing.{escaped, fields_text, is_blank}
use Rattle.csv.proofs.OnLiterals.{csv_on_literals}
use Rattle.facts.proofs.table_stages.stage_texts.Goals as goal

pub returns : goal.returns
unfolding csv_on_literals is_utf8 chars encode escaped fields_text is_blank digits
returns c = record {
  names = refl;
  empty_name = refl;
  equals_in_a_name = refl;
  unknown = refl;
  unknown_before_arguments = refl;
  no_text = refl;
  no_arguments = refl;
  like = refl;
  lone = refl;
  lone_and_more = refl;
  comparison_alone = refl;
  constant = refl;
  empty_constant = refl;
  window = refl;
  past_the_window = refl;
  twenty_digits = refl;
  signed = refl;
  pack = refl;
  pack_of_none = refl;
  unpack_of_two = refl;
  dict = refl;
  dict_of_two = refl;
  plain = refl;
  plain_alone = refl;
  totals = refl;
  totals_alone = refl;
}
