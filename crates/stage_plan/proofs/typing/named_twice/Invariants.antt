use Rattle.std.proofs.Common.{◌≡◌, take}
use Rattle.stage_plan.specs.PlanWords.{texts}
use Rattle.stage_plan.proofs.typing.named_twice.Given as goal

abbrev pub invariant-loop-name : goal.invariant-loop-name
invariant-loop-name l = texts l.list.items ≡ take l.name-index l.names
