use Rattle.std.proofs.Common.{arith}
use Rattle.tree_model.proofs.Measures.{measures}
use Rattle.raw_array.proofs.+ending.Goals as goal

pub release::end_all-end-requires : goal.release::end_all-end-requires
release::end_all-end-requires t c = grind (arith, measures)

pub release::end_all-loop-child-preserved : goal.release::end_all-loop-child-preserved
release::end_all-loop-child-preserved t c = grind (arith, measures)
