use Rattle.std.proofs.Common.{arith}
use Rattle.col_build.proofs.OneMore.{narrow-there, offsets-same}
use Rattle.col_build.proofs.builder.Builder.make_offset.Goals as goal

pub fill_ahead-requires-clause-start : goal.fill_ahead-requires-clause-start
fill_ahead-requires-clause-start c =
    let old = c.args.self.now in
    let few = c.requires.holds in
    omega (arith, narrow-there old (few.0, few.1, few.2) c.requires.narrow c.requires.begun, old.offsets.ok.0)

pub returns-clause-kept : goal.returns-clause-kept
returns-clause-kept c kind values holds =
    let old = c.args.self.now in
    record {
      is_kind = holds.is_kind;
      shape = holds.shape;
      count = holds.count;
      nulls = holds.nulls;
      validity = holds.validity;
      bytes = offsets-same old.shape old.count values c.fill_ahead.new.bytes.items old.offsets.items old.bytes.items c.requires.narrow c.fill_ahead.ensures.kept holds.bytes;
      fits = holds.fits;
    }
