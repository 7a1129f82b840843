use Rattle.stages.proofs.ChunkCosts.{chunk-cost}
use Rattle.stages.proofs.costs.chunks_are_small.Goals as goal

pub returns : goal.returns
returns c = λ columns t kinds dicts ok. chunk-cost c.lawful_trees.ensures.root c.lawful_trees.ensures.parts columns t kinds ok.0
