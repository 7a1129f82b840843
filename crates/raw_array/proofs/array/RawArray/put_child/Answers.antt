use Rattle.std.proofs.Common.{arith}
use Rattle.raw_array.proofs.Moved.{moved}
use Rattle.raw_array.proofs.array.RawArray.put_child.Goals as goal

pub returns-clause-places : goal.returns-clause-places
returns-clause-places c = grind (arith, moved)

pub returns-clause-cost : goal.returns-clause-cost
returns-clause-cost c = grind (arith, moved)
