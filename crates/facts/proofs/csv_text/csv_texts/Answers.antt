use Rattle.std.proofs.Common.{refl}
use Rattle.std.specs.Str.{chars, is_utf8}
use lib.Utf8.{encode}
use Rattle.csv.specs.Writing.{escaped, fields_text, is_blank}
use Rattle.csv.proofs.OnLiterals.{csv_on_literals}
use Rattle.facts.proofs.csv_text.csv_texts.Goals as goal

pub returns : goal.returns
unfolding csv_on_literals is_utf8 chars encode escaped fields_text is_blank
returns c = record {
  null_field = refl;
  null_alone = refl;
  header_alone = refl;
  no_header = refl;
  not_text = refl;
  ragged = refl;
  marked = refl;
  unmarked_alone = refl;
  mark_and_quotes = refl;
}
