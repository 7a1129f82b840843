use Rattle.stage_model.proofs.Numbers.{stages-fit}
use Rattle.stage_model.proofs.StageColumns.{stages-have}
use Rattle.stage_model.proofs.laws.stages_fit_their_columns.Goals as goal

pub returns-clause-within : goal.returns-clause-within
returns-clause-within c = stages-fit

pub returns-clause-after : goal.returns-clause-after
returns-clause-after c = stages-have
