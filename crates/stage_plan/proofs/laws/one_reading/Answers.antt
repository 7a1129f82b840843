use Rattle.stage_plan.proofs.Readings.{one-reading, some-reading}
use Rattle.stage_plan.proofs.laws.one_reading.Goals as goal

pub returns-clause-some : goal.returns-clause-some
returns-clause-some c = some-reading c.one_reading.ensures.some c.one_reading.ensures.alone

pub returns-clause-alone : goal.returns-clause-alone
returns-clause-alone c = one-reading c.one_reading.ensures.some c.one_reading.ensures.alone
