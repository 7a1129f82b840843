use Rattle.pipe_top.proofs.any_step.AnyStepChunkStep.forget.Goals as goal

pub returns-in-Recode : goal.returns-in-Recode
returns-in-Recode c = rw c.in-Recode.is c.forget-in-Recode.ensures
