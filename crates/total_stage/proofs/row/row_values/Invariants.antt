use Rattle.std.proofs.Common.{◌≡◌, ℕ, List, map, take}
use Rattle.data_types.specs.promise.Table.{Row}
use Rattle.stage_model.specs.Stages.{totals_row}
use Rattle.total_stage.specs.Sums.{AreSums}
use Rattle.total_stage.specs.Totals.{number_value}
use Rattle.total_stage.proofs.row.row_values.Given as goal

-- the values of the columns so far
abbrev pub invariant-loop-totals : goal.invariant-loop-totals
invariant-loop-totals l = (picks : List ℕ) (rows : List Row) → AreSums l.sums picks rows
    → map number_value l.values.items ≡ totals_row (take l.totals-index picks) rows
