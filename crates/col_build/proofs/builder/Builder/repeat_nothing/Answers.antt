use Rattle.std.proofs.Common.{refl, arith, inr, replicate}
use Rattle.std.proofs.lemmas.List.{length-replicate}
use Rattle.col_build.proofs.ManyTimes.{nothing-times, times-few, times-holds}
use Rattle.col_build.proofs.OneMore.{bits-held}
use Rattle.col_build.proofs.ValidityFacts.{nulls-few}
use Rattle.col_build.proofs.builder.Builder.repeat_nothing.Goals as goal

pub repeat_validity-requires : goal.repeat_validity-requires
repeat_validity-requires c =
    let t = c.requires.takes in
    let old = c.args.self.now in
    record {
      has = (t.2.values, bits-held old t.2.kind t.2.values t.2.holds);
      few = times-few old t.0 c.args.times t.2;
      behind = c.requires.behind;
    }

pub overflow_add-self-2 : goal.overflow_add-self-2
overflow_add-self-2 c =
    let t = c.requires.takes in
    omega (
      arith,
      t.2.holds.nulls,
      t.2.few,
      nulls-few t.2.values,
      c.nulls_among.ensures t.0 t.1,
      nulls-few (replicate c.args.times t.0),
      length-replicate c.args.times t.0,
    )

pub returns-clause-added : goal.returns-clause-added
returns-clause-added c value null takes kind values holds =
    let old = c.args.self.now in
    times-holds old _ kind values value c.args.times holds takes (inr c.requires.nothing) (record {
      is_kind = refl;
      shape = refl;
      count = refl;
      nulls = omega (arith, c.nulls_among.ensures value null);
      validity = c.in_ok-repeat_validity.ensures.added values value (bits-held old kind values holds) null;
      bytes = nothing-times old kind values value c.args.times old.offsets.items holds takes c.requires.nothing;
    })
