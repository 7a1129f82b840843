use Rattle.std.proofs.Common.{◌+◌, refl, sym, subst, replicate, arith}
use Rattle.data_types.specs.promise.Value.{Null}
use Rattle.col_build.specs.Holding.{kept_offsets, offsets_in}
use Rattle.col_build.specs.Settled.{IsNumbers}
use Rattle.col_build.proofs.OneMore.{bits-held, more-holds, numbers-more}
use Rattle.col_build.proofs.ValidityFacts.{nulls-few}
use Rattle.col_build.proofs.builder.Builder.add_null_number.Goals as goal

pub overflow_add-self-2 : goal.overflow_add-self-2
overflow_add-self-2 c =
    let few = c.requires.holds in
    let here = c.make_place.ensures.kept few.0 few.1 few.2 in
    omega (arith, here.nulls, few.3, nulls-few few.1)

pub returns-clause-added : goal.returns-clause-added
returns-clause-added c kind values holds =
    let few = c.requires.holds in
    let keeps = c.make_place.ensures.kept in
    let old = c.make_place.new.self in
    let here = keeps kind values holds in
    let numbers = subst (IsNumbers c.args.width) (sym c.make_place.ensures.shape) c.requires.numbers in
    more-holds old _ kind values Null here (few.0, few.1, keeps few.0 few.1 few.2, few.3, refl) (record {
      is_kind = refl;
      shape = refl;
      count = refl;
      nulls = omega arith;
      validity = c.in_ok-add_validity.ensures.added values Null (bits-held old kind values here) refl;
      bytes = numbers-more old.shape c.args.width old.count values Null (kept_offsets old) (offsets_in old.shape (old.count + 1) old.offsets.items)
          old.offsets.items old.offsets.items
          old.bytes.items c.put_zeros.new.bytes.items (replicate c.args.width 0) numbers here.bytes c.put_zeros.ensures refl;
    })
