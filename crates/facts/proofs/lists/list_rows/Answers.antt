use Rattle.std.proofs.Common.{refl}
use Rattle.facts.proofs.lists.list_rows.Goals as goal

pub returns : goal.returns
returns c = record {
  spread = refl;
  spread_none = refl;
  grouped = refl;
  grouped_by_numbers = refl;
  nothing_grouped = refl;
  spread_lists = refl;
  no_list = refl;
  other_list = refl;
  flat = refl;
  list = refl;
  last_column = refl;
  past_the_columns = refl;
  too_many_columns = refl;
  offsets = refl;
}
