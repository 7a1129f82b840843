use Rattle.std.proofs.Common.{refl}
use Rattle.std.proofs.Common.{[], codes, arith, true}
use Rattle.std.specs.Fmt.{digits}
use Rattle.data_types.specs.declared.kind.DataType.TheVariants as kinds
use Rattle.data_types.specs.declared.kind.Tick.TheVariants.{Second, Nano}
use Rattle.fmt_string.specs.promise.Keywords.Behind.{Alone, Zone}
use Rattle.facts.proofs.formats.format_texts.Goals as goal

pub returns : goal.returns
unfolding digits
returns c = record {
  int32 = record { key = record { word = codes "i"; behind = Alone (kinds.Int 32 true) }; rest = []; known = (4, omega arith, refl); split = refl; completed = (refl, refl) };
  date = record { key = record { word = codes "tdD"; behind = Alone kinds.DateDay }; rest = []; known = (19, omega arith, refl); split = refl; completed = (refl, refl) };
  zone = record { key = record { word = codes "tss:"; behind = Zone Second }; rest = codes "Europe/Paris"; known = (25, omega arith, refl); split = refl; completed = refl };
  no_zone = record { key = record { word = codes "tsn:"; behind = Zone Nano }; rest = []; known = (28, omega arith, refl); split = refl; completed = refl };
  months = record { key = record { word = codes "tiM"; behind = Alone kinds.IntervalMonths }; rest = []; known = (33, omega arith, refl); split = refl; completed = (refl, refl) };
  map = record { key = record { word = codes "+m"; behind = Alone kinds.Map }; rest = []; known = (40, omega arith, refl); split = refl; completed = (refl, refl) };
  size_spelled = refl;
  list_size_spelled = refl;
  decimal_spelled = refl;
  wide_decimal_spelled = refl;
  scale_below_0_spelled = refl;
  duration_spelled = refl;
  time_spelled = refl;
  unsigned_spelled = refl;
  large_text_spelled = refl;
  view_spelled = refl;
}
