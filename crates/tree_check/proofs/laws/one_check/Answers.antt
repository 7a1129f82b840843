use Rattle.tree_check.proofs.OneCheck.{one-check, some-check}
use Rattle.tree_check.proofs.laws.one_check.Goals as goal

pub returns-clause-some : goal.returns-clause-some
returns-clause-some c = some-check c.one_reading-2.ensures.some c.one_reading.ensures.some

pub returns-clause-alone : goal.returns-clause-alone
returns-clause-alone c = one-check c.one_reading-2.ensures.alone c.one_schema_answer.ensures
