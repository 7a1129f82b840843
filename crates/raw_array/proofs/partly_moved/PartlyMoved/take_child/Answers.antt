use Rattle.tree_model.proofs.Parted.{parted}
use Rattle.std.proofs.Common.{arith}
use Rattle.raw_array.proofs.partly_moved.PartlyMoved.take_child.Goals as goal

pub returns-clause-parted : goal.returns-clause-parted
returns-clause-parted c = grind (arith, parted)

pub returns-clause-places : goal.returns-clause-places
returns-clause-places c = grind (arith, parted)
