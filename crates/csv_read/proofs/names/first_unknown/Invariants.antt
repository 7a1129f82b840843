use Rattle.std.proofs.Common.{not}
use Rattle.stage_plan.specs.PlanWords.{has_text}
use Rattle.csv_read.proofs.Remaining.{PositionFrom}
use Rattle.csv_read.proofs.names.first_unknown.Given as goal

abbrev pub invariant-loop-place : goal.invariant-loop-place
invariant-loop-place l = PositionFrom (λ e. not (has_text l.known.keys e.name)) l.entries l.place
