use Rattle.std.proofs.Common.{arith}
use Rattle.raw_array.proofs.Buffers.{buffer_lists}
use Rattle.tree_model.proofs.Lists.{tree_lists}
use Rattle.raw_array.proofs.array.RawArray.build.Goals as goal

pub invariant_of-result : goal.invariant_of-result
invariant_of-result c = grind (arith, tree_lists, buffer_lists)
