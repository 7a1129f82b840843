use Rattle.holder_core.proofs.Steps.{runs_keep_ok}
use Rattle.holder_core.proofs.laws.steps_keep_ok.Goals as goal

pub returns-clause-run : goal.returns-clause-run
returns-clause-run c = runs_keep_ok
