use Rattle.std.proofs.Common.{arith}
use Rattle.col_build.proofs.OneMore.{numbers-there}
use Rattle.col_build.proofs.builder.Builder.make_places.Goals as goal

pub fill_ahead-requires-clause-start : goal.fill_ahead-requires-clause-start
fill_ahead-requires-clause-start c =
    let old = c.args.self.now in omega (arith, numbers-there old c.args.width c.requires.holds c.requires.numbers, old.bytes.ok.0)
