use Rattle.std.proofs.Common.{refl}
use Rattle.csv.specs.Writing.{escaped, fields_text, is_blank}
use Rattle.csv.proofs.OnLiterals.{csv_on_literals}
use Rattle.facts.proofs.csv_text.rfc_4180.Goals as goal

pub returns : goal.returns
unfolding csv_on_literals escaped fields_text is_blank
returns c = record {
  lines = refl;
  no_last_end = refl;
  blanks = refl;
  quotes = refl;
  line_within = refl;
  doubled = refl;
  comma_written = refl;
  quote_written = refl;
  line_written = refl;
}
