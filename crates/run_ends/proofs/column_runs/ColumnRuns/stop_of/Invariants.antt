use Rattle.run_ends.specs.ColumnRuns.{values_in}
use Rattle.run_ends.proofs.ValueRuns.{Alike}
use Rattle.run_ends.proofs.column_runs.ColumnRuns.stop_of.Given as goal

-- the items so far have the value of the first
abbrev pub invariant-loop-j : goal.invariant-loop-j
invariant-loop-j l = Alike (values_in l.self) l.i l.j
