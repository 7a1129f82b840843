use Rattle.std.proofs.Common.{◌≡◌, ℕ, ◌<◌, ◌≤◌, length, get_or, vec_len}
use Rattle.std.specs.Vec.{vec_capacity}
use Rattle.data_types.specs.promise.TypedView.{typed_of}
use Rattle.layout_rules.specs.promise.Values.{rows_of}
use Rattle.stage_model.specs.Stages.{numbers_at}
use Rattle.total_stage.specs.Sums.{rows_between}
use Rattle.total_stage.specs.Totals.{AreTotals}
use Rattle.total_stage.specs.declared.numbers.Totals.{Totals}
use Rattle.total_stage.proofs.job.window_sums.Given as goal

-- the totals of the columns so far, and room for the others
abbrev pub invariant-loop-pick : goal.invariant-loop-pick
invariant-loop-pick l = record {
  count : vec_len l.sums ≡ l.pick-index;
  each : (k : ℕ) → k < l.pick-index → (none : Totals)
      → AreTotals (get_or l.sums.items k none) (numbers_at (get_or l.picks k 0) (rows_between l.from l.to (rows_of (typed_of l.typed) l.chunk)));
  room : length l.picks ≤ vec_capacity l.sums;
}
