use Rattle.std.proofs.Common.{arith}
use Rattle.raw_array.proofs.Amounts.{amounts}
use Rattle.raw_array.proofs.laws.like_trees_are_ordered.Goals as goal

pub returns-clause-reflexive : goal.returns-clause-reflexive
returns-clause-reflexive c = grind (arith, amounts)

pub returns-clause-transitive : goal.returns-clause-transitive
returns-clause-transitive c = grind (arith, amounts)

pub returns-clause-lowered : goal.returns-clause-lowered
returns-clause-lowered c = grind (arith, amounts)

pub returns-clause-lowered_by : goal.returns-clause-lowered_by
returns-clause-lowered_by c = grind (arith, amounts)

pub returns-clause-one_lower : goal.returns-clause-one_lower
returns-clause-one_lower c = grind (arith, amounts)

pub returns-clause-cost : goal.returns-clause-cost
returns-clause-cost c = grind (arith, amounts)

pub returns-clause-depth : goal.returns-clause-depth
returns-clause-depth c = grind (arith, amounts)

pub returns-clause-amount : goal.returns-clause-amount
returns-clause-amount c = grind (arith, amounts)
