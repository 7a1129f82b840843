use Rattle.std.proofs.Common.{arith}
use Rattle.tree_model.proofs.Measures.{measures}
use Rattle.raw_schema.proofs.release.release_all.Goals as goal

pub end-requires : goal.end-requires
end-requires c = grind (arith, measures)

pub loop-child-preserved : goal.loop-child-preserved
loop-child-preserved c = grind (arith, measures)
