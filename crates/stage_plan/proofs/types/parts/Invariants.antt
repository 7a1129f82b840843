use Rattle.std.proofs.Common.{◌≡◌, ◌++◌, map, length}
use Rattle.stage_plan.specs.promise.Types.{parts}
use Rattle.stage_plan.proofs.types.parts.Given as goal

abbrev pub invariant-loop-part : goal.invariant-loop-part
invariant-loop-part l = map (λ p. p.now) l.parts.items ++ parts l.rest ≡ parts l.text

abbrev pub decreases-loop-part : goal.decreases-loop-part
decreases-loop-part l = length l.rest
