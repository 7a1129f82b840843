use Rattle.std.proofs.Common.{◌≡◌, map, length}
use Rattle.data_types.specs.ColumnView.{column_of}
use Rattle.total_stage.specs.Totals.{number_value}
use Rattle.total_stage.proofs.HeldRow.{HoldFirst}
use Rattle.total_stage.proofs.row.row_builders.Given as goal

-- the columns so far have builders
abbrev pub invariant-loop-k : goal.invariant-loop-k
invariant-loop-k l = HoldFirst l.builders.items (map column_of l.columns) (map number_value l.values) l.k
