use Rattle.std.proofs.Common.{◌≡◌, ◌-◌}
use Rattle.data_types.specs.promise.Value.{byte_total}
use Rattle.layout_rules.specs.promise.Values.{each}
use Rattle.run_ends.specs.RunCols.{array_in, kinds_in}
use Rattle.run_ends.specs.Runs.{run_value}
use Rattle.run_ends.proofs.ItemsWalked.{Bounded, Walked}
use Rattle.run_ends.proofs.decoder.total_bytes.Given as goal

-- the bytes of the items so far
abbrev pub invariant-loop-at : goal.invariant-loop-at
invariant-loop-at l =
    Walked (kinds_in l.col) (array_in l.col) l.at l.run × (l.total ≡ byte_total (each (run_value (kinds_in l.col) (array_in l.col)) 0 l.at)) × Bounded l.total l.at

abbrev pub decreases-loop-at : goal.decreases-loop-at
decreases-loop-at l = l.count - l.at
