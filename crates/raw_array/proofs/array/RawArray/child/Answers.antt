use Rattle.tree_model.proofs.Lists.{tree_lists}
use Rattle.std.proofs.Common.{arith}
use Rattle.raw_array.proofs.array.RawArray.child.Goals as goal

pub get-requires : goal.get-requires
get-requires c = grind (arith, tree_lists)

pub returns : goal.returns
returns c = grind (arith, tree_lists)
