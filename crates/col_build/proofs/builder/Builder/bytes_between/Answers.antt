use Rattle.col_build.proofs.OneMore.{narrow-begun}
use Rattle.col_build.proofs.builder.Builder.bytes_between.Goals as goal

pub end_of-requires : goal.end_of-requires
end_of-requires c = narrow-begun c.args.self.now c.requires.holds c.requires.narrow
