use Rattle.std.proofs.Common.{◌+◌, refl, arith}
use Rattle.data_types.specs.promise.Packed.{le_bytes}
use Rattle.data_types.specs.promise.Value.{Bits}
use Rattle.col_build.specs.Holding.{kept_offsets, offsets_in}
use Rattle.col_build.proofs.OneMore.{are_floats, bits-held, more-holds, numbers-more}
use Rattle.col_build.proofs.builder.Builder.put_bits.Goals as goal

pub returns-clause-added : goal.returns-clause-added
returns-clause-added c kind values holds =
    let old = c.args.self.now in
    let value = Bits c.args.number in
    let numbers = are_floats old.shape c.args.width c.requires.shape in
    more-holds old _ kind values value holds c.requires.takes (record {
      is_kind = refl;
      shape = refl;
      count = refl;
      nulls = omega arith;
      validity = c.in_ok-add_validity.ensures.added values value (bits-held old kind values holds) refl;
      bytes = numbers-more old.shape c.args.width old.count values value (kept_offsets old) (offsets_in old.shape (old.count + 1) old.offsets.items)
          old.offsets.items old.offsets.items
          old.bytes.items c.put_number.new.bytes.items (le_bytes c.args.width c.args.number) numbers holds.bytes c.put_number.ensures.put refl;
    })
