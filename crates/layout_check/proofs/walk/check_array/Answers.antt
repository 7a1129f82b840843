use Rattle.layout_rules.proofs.Lawful.{lawful}
use Rattle.std.proofs.Common.{arith}
use Rattle.layout_check.proofs.walk.check_array.Goals as goal

pub returns-in-Ok-clause-lawful : goal.returns-in-Ok-clause-lawful
returns-in-Ok-clause-lawful c = grind (arith, lawful)

pub returns-in-Err-clause-lawful : goal.returns-in-Err-clause-lawful
returns-in-Err-clause-lawful c = grind (arith, lawful)
