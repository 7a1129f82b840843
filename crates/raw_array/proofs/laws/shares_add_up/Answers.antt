use Rattle.std.proofs.Common.{arith}
use Rattle.raw_array.proofs.Amounts.{amounts}
use Rattle.raw_array.proofs.laws.shares_add_up.Goals as goal

pub returns-clause-none : goal.returns-clause-none
returns-clause-none c = grind (arith, amounts)

pub returns-clause-one_more : goal.returns-clause-one_more
returns-clause-one_more c = grind (arith, amounts)

pub returns-clause-least : goal.returns-clause-least
returns-clause-least c = grind (arith, amounts)

pub returns-clause-least_by : goal.returns-clause-least_by
returns-clause-least_by c = grind (arith, amounts)

pub returns-clause-least_left : goal.returns-clause-least_left
returns-clause-least_left c = grind (arith, amounts)
