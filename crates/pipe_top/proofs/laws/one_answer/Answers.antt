use Rattle.pipe_top.proofs.OneAnswer.{one-answer, some-answer}
use Rattle.pipe_top.proofs.laws.one_answer.Goals as goal

pub returns-clause-some : goal.returns-clause-some
returns-clause-some c = some-answer c.one_reading.ensures.some c.one_reading.ensures.alone c.one_check.ensures.some c.one_check.ensures.alone

pub returns-clause-alone : goal.returns-clause-alone
returns-clause-alone c = one-answer c.one_reading.ensures.some c.one_reading.ensures.alone c.one_check.ensures.some c.one_check.ensures.alone
