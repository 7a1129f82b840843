use Rattle.std.proofs.Common.{◌≤ℤ◌, pos}
use Rattle.number_stream.proofs.total.add.Given as goal

abbrev pub invariant-loop-row : goal.invariant-loop-row
invariant-loop-row l = pos 0 ≤ℤ l.row
