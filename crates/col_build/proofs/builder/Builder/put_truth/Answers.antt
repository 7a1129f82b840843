use Rattle.std.proofs.Common.{◌≤◌, ◌∙◌, ◌+◌, ◌++◌, ◌∷◌, [], ℕ, Bool, true, false, List, refl, sym, ap, subst, arith}
use Rattle.std.proofs.lemmas.List.{length-map, map-append}
use Rattle.std.specs.Int.{from_bool}
use Rattle.std.specs.Prelude.{map}
use Rattle.col_build.specs.promise.Encoding.{bit_bytes, is_set}
use Rattle.col_build.specs.Holding.{HasBytes, HasValidity, bytes_in, offsets_in}
use Rattle.col_build.specs.declared.shape.Shape.{Shape}
use Rattle.col_build.proofs.OneMore.{bits-held, more-holds, truths-bits}
use Rattle.col_build.proofs.ValidityFacts.{null-counted, nulls-few}
use Rattle.col_build.proofs.builder.Builder.put_truth.Goals as goal

one : (null : Bool) → from_bool null ≤ 1
one true = omega arith
one false = omega arith

pub push_bit-requires : goal.push_bit-requires
push_bit-requires c =
    let old = c.args.self.now in
    let few = c.requires.holds in
    record {
      shows = (
        map is_set few.1,
        length-map few.1 is_set ∙ sym few.2.count,
        truths-bits old few.0 few.1 c.requires.truths few.2,
      );
    }

pub overflow_add-self-2 : goal.overflow_add-self-2
overflow_add-self-2 c =
    let few = c.requires.holds in omega (arith, few.2.nulls, few.3, nulls-few few.1, c.from.ensures, one c.args.null)

pub returns-clause-added : goal.returns-clause-added
returns-clause-added c value null set takes kind values holds =
    let old = c.args.self.now in
    let is = c.requires.truths in
    let flags = map is_set values in
    let bits = c.in_ok-push_bit.ensures.added flags (length-map values is_set ∙ sym holds.count) (truths-bits old kind values is holds) in
    let Has : Shape → Type 0 = λ s. HasBytes s (values ++ value ∷ []) (offsets_in s (old.count + 1) old.offsets.items)
    (bytes_in s (old.count + 1) old.offsets.items c.push_bit.new.bits.items) in
    let HasBits : List ℕ → Type 0 = λ bits. HasValidity bits old.count old.nulls values in
    more-holds old _ kind values value holds takes (record {
      is_kind = refl;
      shape = refl;
      count = refl;
      nulls = omega (arith, c.from.ensures, null-counted value c.args.null (sym null));
      validity = c.push_validity.ensures values value (subst HasBits (sym c.make_room.ensures.items) (bits-held old kind values holds)) null;
      bytes = subst Has (sym is)
          (bits ∙ ap (λ x. bit_bytes (flags ++ x ∷ [])) (sym set) ∙ ap bit_bytes (sym (map-append is_set values (value ∷ []))));
    })
