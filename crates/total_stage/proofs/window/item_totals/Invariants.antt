use Rattle.std.proofs.Common.{◌-◌}
use Rattle.arr_import.specs.Cols.{window_of}
use Rattle.total_stage.specs.Totals.{AreTotals, numbers_in}
use Rattle.total_stage.proofs.window.item_totals.Given as goal

-- the totals so far
abbrev pub invariant-loop-i : goal.invariant-loop-i
invariant-loop-i l = AreTotals l.totals (numbers_in (window_of l.items) l.from (l.i - l.from))
