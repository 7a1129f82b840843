use Rattle.std.proofs.Common.{◌≤ℤ◌, pos}
use Rattle.first_exchange.proofs.print.print_rows.Given as goal

abbrev pub invariant-loop-row : goal.invariant-loop-row
invariant-loop-row g l = pos 0 ≤ℤ l.row
