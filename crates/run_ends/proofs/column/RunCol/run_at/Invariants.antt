use Rattle.std.proofs.Common.{◌-◌}
use Rattle.run_ends.specs.promise.Runs.{ends_in, ends_above, run_count}
use Rattle.run_ends.specs.RunCols.{kinds_in, array_in}
use Rattle.run_ends.specs.RunHolds.{Parted}
use Rattle.run_ends.proofs.column.RunCol.run_at.Given as goal

-- the runs below `low` don't end above the place, and those from `high` on do
abbrev pub invariant-loop-low : goal.invariant-loop-low
invariant-loop-low l = Parted (ends_above (ends_in (kinds_in l.self) (array_in l.self)) l.place) (run_count (array_in l.self)) l.low l.high

abbrev pub decreases-loop-low : goal.decreases-loop-low
decreases-loop-low l = l.high - l.low
