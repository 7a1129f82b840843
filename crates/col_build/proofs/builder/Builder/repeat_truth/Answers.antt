use Rattle.std.proofs.Common.{◌∙◌, ◌++◌, refl, sym, subst, arith, inl, replicate}
use Rattle.std.proofs.lemmas.List.{length-map, length-replicate}
use Rattle.std.specs.Prelude.{map}
use Rattle.col_build.specs.promise.Encoding.{is_set}
use Rattle.col_build.specs.Holding.{HasBytes}
use Rattle.col_build.specs.declared.shape.Shape.{Shape}
use Rattle.col_build.proofs.ManyTimes.{times-few, times-holds, truths-times}
use Rattle.col_build.proofs.OneMore.{bits-held, truths-bits}
use Rattle.col_build.proofs.ValidityFacts.{nulls-few}
use Rattle.col_build.proofs.builder.Builder.repeat_truth.Goals as goal

pub make_room-requires : goal.make_room-requires
make_room-requires c = let t = c.requires.takes in omega (arith, times-few c.args.self.now t.0 c.args.times t.3)

pub repeat_validity-requires : goal.repeat_validity-requires
repeat_validity-requires c =
    let t = c.requires.takes in
    let old = c.args.self.now in
    record {
      has = (t.3.values, bits-held old t.3.kind t.3.values t.3.holds);
      few = times-few old t.0 c.args.times t.3;
      behind = c.requires.behind;
    }

pub push_bits-requires-clause-shows : goal.push_bits-requires-clause-shows
push_bits-requires-clause-shows c =
    let t = c.requires.takes.3 in
    let old = c.args.self.now in (
      map is_set t.values,
      length-map t.values is_set ∙ sym t.holds.count,
      c.make_room.ensures.items ∙ truths-bits old t.kind t.values c.requires.truths t.holds,
    )

pub push_bits-requires-clause-few : goal.push_bits-requires-clause-few
push_bits-requires-clause-few c = let t = c.requires.takes in times-few c.args.self.now t.0 c.args.times t.3

pub overflow_add-self-2 : goal.overflow_add-self-2
overflow_add-self-2 c =
    let t = c.requires.takes in
    omega (
      arith,
      t.3.holds.nulls,
      t.3.few,
      nulls-few t.3.values,
      c.nulls_among.ensures t.0 t.1,
      nulls-few (replicate c.args.times t.0),
      length-replicate c.args.times t.0,
    )

pub returns-clause-added : goal.returns-clause-added
returns-clause-added c value null set takes kind values holds =
    let old = c.args.self.now in
    let Has : Shape → Type 0 = λ s. HasBytes s (values ++ replicate c.args.times value) old.offsets.items c.push_bits.new.bits.items in
    times-holds old _ kind values value c.args.times holds takes (inl c.requires.truths) (record {
      is_kind = refl;
      shape = refl;
      count = refl;
      nulls = omega (arith, c.nulls_among.ensures value null);
      validity = c.in_ok-repeat_validity.ensures.added values value (bits-held old kind values holds) null;
      bytes = subst Has (sym c.requires.truths)
          (truths-times values value c.args.truth old.count c.args.times old.offsets.items old.bytes.items c.push_bits.new.bits.items holds.count set
          (truths-bits old kind values c.requires.truths holds)
          (λ flags len shown. c.push_bits.ensures flags len (c.make_room.ensures.items ∙ shown)));
    })
