use Rattle.std.proofs.Common.{arith}
use Rattle.tree_model.proofs.Parted.{parted}
use Rattle.raw_schema.proofs.partly_moved.PartlyMovedSchema.take_child.Goals as goal

pub returns-clause-parted : goal.returns-clause-parted
returns-clause-parted c = grind (arith, parted)

pub returns-clause-places : goal.returns-clause-places
returns-clause-places c = grind (arith, parted)
