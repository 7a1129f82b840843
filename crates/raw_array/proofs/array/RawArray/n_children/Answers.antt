use Rattle.std.proofs.Common.{arith}
use Rattle.tree_model.proofs.Lists.{tree_lists}
use Rattle.raw_array.proofs.array.RawArray.n_children.Goals as goal

pub returns-clause-exact : goal.returns-clause-exact
returns-clause-exact c = grind (arith, tree_lists)
