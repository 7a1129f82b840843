use Rattle.tree_text.proofs.OneTree as one
use Rattle.tree_text.proofs.SomeReading.{some_reading}
use Rattle.tree_text.proofs.laws.one_reading.Goals as goal

pub returns-clause-some : goal.returns-clause-some
returns-clause-some c = some_reading

pub returns-clause-alone : goal.returns-clause-alone
returns-clause-alone c = one.one_reading
