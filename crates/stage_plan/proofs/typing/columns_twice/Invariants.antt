use Rattle.std.proofs.Common.{◌≡◌, map, take}
use Rattle.stage_plan.specs.PlanWords.{columns_in, texts}
use Rattle.stage_plan.proofs.typing.columns_twice.Given as goal

abbrev pub invariant-loop-column : goal.invariant-loop-column
invariant-loop-column l = texts l.list.items ≡ map (λ c. c.name) (columns_in (take l.column-index l.columns))
