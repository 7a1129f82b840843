use Rattle.std.proofs.Common.{◌-◌}
use Rattle.arr_import.specs.Window.{Window}
use Rattle.total_stage.specs.Totals.{AreTotals, ShowsNumbers, numbers_in}
use Rattle.total_stage.proofs.window.place_totals.Given as goal

-- the totals so far
abbrev pub invariant-loop-i : goal.invariant-loop-i
invariant-loop-i l = (w : Window) → ShowsNumbers l.items w l.to → AreTotals l.totals (numbers_in w l.from (l.i - l.from))
