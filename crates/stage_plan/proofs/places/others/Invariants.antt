use Rattle.std.proofs.Common.{◌≡◌}
use Rattle.stage_model.specs.Typing.{others}
use Rattle.stage_plan.proofs.places.others.Given as goal

abbrev pub invariant-loop-place : goal.invariant-loop-place
invariant-loop-place l = l.rest.items ≡ others l.places l.place-counter
