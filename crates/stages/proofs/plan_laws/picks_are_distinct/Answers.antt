use Rattle.stages.proofs.DifferentPicks.{stages-distinct}
use Rattle.stages.proofs.plan_laws.picks_are_distinct.Goals as goal

pub returns : goal.returns
returns c = stages-distinct
