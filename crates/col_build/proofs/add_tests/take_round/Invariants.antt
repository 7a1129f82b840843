use Rattle.std.proofs.Common.{◌≤◌, List, length}
use Rattle.data_types.specs.promise.Value.{Value}
use Rattle.col_build.specs.Holding.{Holds}
use Rattle.col_build.proofs.add_tests.take_round.Given as goal

-- both columns hold the same values, no more than items so far
abbrev pub invariant-loop-i : goal.invariant-loop-i
invariant-loop-i g l = (values : List Value) × Holds l.pushed l.kind values × Holds l.added l.kind values × (length values ≤ l.i)
