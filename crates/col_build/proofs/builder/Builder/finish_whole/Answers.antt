use Rattle.std.proofs.Common.{◌∙◌, ◌^◌, ◌<◌, refl, ap, arith, w64}
use Rattle.std.proofs.lemmas.Int.{to_z_pos}
use Rattle.std.specs.Prelude.{pos}
use Rattle.col_build.proofs.MadeAhead.{whole_holds}
use Rattle.col_build.proofs.ValidityFacts.{nulls-few}
use Rattle.col_build.proofs.builder.Builder.finish_whole.Goals as goal

pub returns-in_default-clause-kept : goal.returns-in_default-clause-kept
returns-in_default-clause-kept c kind values holds = whole_holds c.args.self.now kind values holds

pub overflow_cast-column-2 : goal.overflow_cast-column-2
overflow_cast-column-2 c =
    let holds = c.requires.holds.2 in
    let few : c.lay_out.new.self.nulls < 2 ^ 63 = omega (arith, (c.if-not-lay_out.ensures.emptied refl).nulls, holds.nulls, holds.fits.few, nulls-few c.requires.holds.1) in
    omega arith

pub returns-clause-encoded : goal.returns-clause-encoded
returns-clause-encoded c kind values holds =
    let emptied = c.if-not-lay_out.ensures.emptied refl in
    let count = c.lay_out.new.self.count in
    let nulls = c.lay_out.new.self.nulls in
    let few : count < 2 ^ 63 = omega (arith, emptied.count, holds.count, holds.fits.few) in
    let nulls_few : nulls < 2 ^ 63 = omega (arith, emptied.nulls, holds.nulls, holds.fits.few, nulls-few values) in
    record {
      length = to_z_pos w64 count few ∙ ap pos (emptied.count ∙ holds.count);
      null_count = to_z_pos w64 nulls nulls_few ∙ ap pos (emptied.nulls ∙ holds.nulls);
      buffers = c.if-not-lay_out.ensures.laid refl kind values holds;
    }
