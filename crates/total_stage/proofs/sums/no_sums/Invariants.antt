use Rattle.std.proofs.Common.{◌≡◌, ℕ, ◌<◌, [], length, get_or}
use Rattle.total_stage.specs.Totals.{AreTotals}
use Rattle.total_stage.specs.declared.numbers.Totals.{Totals}
use Rattle.total_stage.proofs.sums.no_sums.Given as goal

-- no numbers in each column so far
abbrev pub invariant-loop-pick : goal.invariant-loop-pick
invariant-loop-pick l = record {
  count : length l.sums.items ≡ l._pick-index;
  each : (k : ℕ) → k < l._pick-index → (none : Totals) → AreTotals (get_or l.sums.items k none) [];
}
