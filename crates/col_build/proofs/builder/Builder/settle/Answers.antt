use Rattle.col_build.proofs.OneMore.{narrow-begun}
use Rattle.col_build.proofs.builder.Builder.settle.Goals as goal

pub cut_ahead-requires-clause-begun : goal.cut_ahead-requires-clause-begun
cut_ahead-requires-clause-begun c = narrow-begun c.args.self.now c.requires.holds
