use Rattle.raw_array.proofs.Costs.{costs}
use Rattle.std.proofs.Common.{arith}
use Rattle.raw_array.proofs.array.RawArray.share.Goals as goal

pub returns-clause-like : goal.returns-clause-like
returns-clause-like c = grind (arith, costs)

pub returns-clause-cost : goal.returns-clause-cost
returns-clause-cost c = grind (arith, costs)

pub returns-clause-cost_kept : goal.returns-clause-cost_kept
returns-clause-cost_kept c = grind (arith, costs)
