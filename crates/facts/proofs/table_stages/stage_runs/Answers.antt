use Rattle.std.proofs.Common.{refl}
use Rattle.std.specs.Str.{chars, is_utf8}
use Rattle.std.specs.Fmt.{digits}
use lib.Utf8.{encode}
use Rattle.csv.specs.Writing.{escaped, fields_text, is_blank}
use Rattle.csv.proofs.OnLiterals.{csv_on_literals}
use Rattle.facts.proofs.table_stages.stage_runs.Goals as goal

pub returns : goal.returns
unfolding csv_on_literals is_utf8 chars encode escaped fields_text is_blank digits
returns c = record {
  no_stage = refl;
  no_row = refl;
  extremes = refl;
  totals_of_none = refl;
  filtered = refl;
  sliced = refl;
  late_record_is_refused = refl;
  dictionary = refl;
  plain_again = refl;
  packed = refl;
  dropped = refl;
  selected = refl;
  all_kinds = refl;
}
