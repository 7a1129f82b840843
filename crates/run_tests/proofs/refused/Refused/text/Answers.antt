use Rattle.run_tests.proofs.Fitting.{told}
use Rattle.run_tests.proofs.refused.Refused.text.Goals as goal

pub returns-in-Record : goal.returns-in-Record
returns-in-Record c = rw c.in-Record.is told
