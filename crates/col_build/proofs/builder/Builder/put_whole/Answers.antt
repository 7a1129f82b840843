use Rattle.std.proofs.Common.{◌∙◌, ◌+◌, ◌*◌, refl, ap, arith}
use Rattle.std.proofs.Math.Facts.{to_z-of_z}
use Rattle.data_types.specs.promise.FieldText.{in_range}
use Rattle.data_types.specs.promise.Value.{Whole}
use Rattle.col_build.specs.Holding.{kept_offsets, offsets_in}
use Rattle.col_build.proofs.OneMore.{are_wholes, bits-held, more-holds, numbers-more, whole-range}
use Rattle.col_build.proofs.builder.Builder.put_whole.Goals as goal

pub put_whole-requires-clause-range : goal.put_whole-requires-clause-range
put_whole-requires-clause-range c =
    let shape = c.requires.shape in (
      shape.0,
      ap (in_range (8 * c.args.width) shape.0) (to_z-of_z c.ranges.number)
          ∙ whole-range c.args.self.now c.args.number c.args.width shape.0 c.requires.takes shape.1,
    )

pub returns-clause-added : goal.returns-clause-added
returns-clause-added c kind values holds =
    let old = c.args.self.now in
    let value = Whole c.args.number in
    let numbers = are_wholes old.shape c.args.width c.requires.shape.0 c.requires.shape.1 in
    more-holds old _ kind values value holds c.requires.takes (record {
      is_kind = refl;
      shape = refl;
      count = refl;
      nulls = omega arith;
      validity = c.in_ok-add_validity.ensures.added values value (bits-held old kind values holds) refl;
      bytes = numbers-more old.shape c.args.width old.count values value (kept_offsets old) (offsets_in old.shape (old.count + 1) old.offsets.items)
          old.offsets.items old.offsets.items
          old.bytes.items c.put_whole.new.bytes.items _ numbers holds.bytes c.put_whole.ensures (cc (to_z-of_z c.ranges.number));
    })
