use Rattle.tree_model.proofs.Measures.{measures}
use Rattle.std.proofs.Common.{arith}
use Rattle.arr_move.proofs.fields.discard_children.Goals as goal

pub discard_released-requires : goal.discard_released-requires
discard_released-requires c = grind (arith, measures)

pub loop-child-preserved : goal.loop-child-preserved
loop-child-preserved c = grind (arith, measures)
