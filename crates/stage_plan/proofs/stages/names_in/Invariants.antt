use Rattle.std.proofs.Common.{◌≡◌, ◌++◌, length}
use Rattle.stage_model.specs.promise.StageGrammar.{names_in}
use Rattle.stage_plan.proofs.stages.names_in.Given as goal

-- the names so far, and those of the rest
abbrev pub invariant-loop-name : goal.invariant-loop-name
invariant-loop-name l = l.names.items ++ names_in l.rest ≡ names_in l.arguments

abbrev pub decreases-loop-name : goal.decreases-loop-name
decreases-loop-name l = length l.rest
