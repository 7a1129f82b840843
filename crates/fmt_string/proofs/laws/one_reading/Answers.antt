use Rattle.fmt_string.proofs.OneAnswer.{one_reading}
use Rattle.fmt_string.proofs.SomeAnswer.{some_reading}
use Rattle.fmt_string.proofs.laws.one_reading.Goals as goal

pub returns-clause-some : goal.returns-clause-some
returns-clause-some c = some_reading

pub returns-clause-alone : goal.returns-clause-alone
returns-clause-alone c = one_reading
