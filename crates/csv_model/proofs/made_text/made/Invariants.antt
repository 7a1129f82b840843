use Rattle.std.proofs.Common.{◌≡◌, ◌++◌}
use Rattle.csv_model.specs.promise.Made.{made_rows}
use Rattle.csv_model.specs.Made.{made_header}
use Rattle.csv_model.proofs.made_text.made.Given as goal

abbrev pub invariant-loop-i : goal.invariant-loop-i
invariant-loop-i l = l.text.items ≡ made_header ++ made_rows l.i
