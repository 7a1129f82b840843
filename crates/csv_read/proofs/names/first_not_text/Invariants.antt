use Rattle.std.proofs.Common.{not}
use Rattle.std.specs.Str.{is_utf8}
use Rattle.csv_read.proofs.Remaining.{PositionFrom}
use Rattle.csv_read.proofs.names.first_not_text.Given as goal

abbrev pub invariant-loop-place : goal.invariant-loop-place
invariant-loop-place l = PositionFrom (λ name. not (is_utf8 name.now)) l.names l.place
