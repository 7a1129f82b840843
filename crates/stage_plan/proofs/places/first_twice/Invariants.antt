use Rattle.stage_plan.proofs.Twice.{TwiceFrom}
use Rattle.stage_plan.proofs.places.first_twice.Given as goal

abbrev pub invariant-loop-place : goal.invariant-loop-place
invariant-loop-place l = TwiceFrom l.names l.place l.known.keys
