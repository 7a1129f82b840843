use Rattle.std.proofs.Common.{◌≡◌, ◌≤◌, ◌∙◌, ◌+◌, ◌*◌, ◌++◌, ℕ, Bool, true, false, List, length, take, ap, refl, subst, sym, arith}
use Rattle.std.proofs.lemmas.List.{length-take-le, take-take, take_at}
use Rattle.std.proofs.lemmas.Result.{err_from_is_err_and}
use Rattle.std.specs.Int.{from_bool}
use Rattle.data_types.specs.promise.Packed.{le_bytes}
use Rattle.col_build.specs.promise.Encoding.{if_some}
use Rattle.col_build.specs.Holding.{end_at}
use Rattle.col_build.proofs.OneMore.{bits-held, more-holds, narrow-inside, narrow-more, narrow-same, total-small}
use Rattle.col_build.proofs.ValidityFacts.{null-counted, nulls-few}
use Rattle.col_build.proofs.builder.Builder.put_between.Goals as goal

one : (null : Bool) → from_bool null ≤ 1
one true = omega arith
one false = omega arith

pub put_bytes-requires : goal.put_bytes-requires
put_bytes-requires c =
    let few = c.requires.holds in
    let old = c.args.self.now in
    let room : old.count * 4 + 4 ≤ length old.offsets.items = omega (arith, c.requires.place, old.offsets.ok.0) in
    omega (arith, narrow-inside old (few.0, few.1, few.2) c.requires.narrow room, c.last_end-start.ensures.is, old.bytes.ok.0)

-- the first bytes are as they were
front : (end : ℕ) (more old new : List ℕ) → end ≤ length old → take (end + length more) new ≡ take end old ++ more → take end new ≡ take end old
front end more old new inside put =
    sym (take-take end (end + length more) new (omega arith)) ∙ ap (take end) put ∙ take_at (take end old) more end (length-take-le end old inside)

pub returns-in_err-add_validity-clause-kept : goal.returns-in_err-add_validity-clause-kept
returns-in_err-add_validity-clause-kept c =
    let p = err_from_is_err_and c.from_residual-in_err-add_validity.result c.from_residual-in_err-add_validity.ensures.1 in
    let few = c.requires.holds in
    let old = c.args.self.now in
    let more = c.args.bytes.now in
    let had = old.bytes.items in
    let new = c.put_bytes.new.bytes.items in
    let end = end_at old.offsets.items old.count in
    let room : old.count * 4 + 4 ≤ length old.offsets.items = omega (arith, c.requires.place, old.offsets.ok.0) in
    let stored : take (end + length more) new ≡ take end had ++ more =
    subst (λ n. take (n + length more) new ≡ take n had ++ more) c.last_end-start.ensures.is c.in_ok-put_bytes.ensures.put in
    let same = front end more had new (narrow-inside old (few.0, few.1, few.2) c.requires.narrow room) stored in
    rw p.1 (λ kind values holds. record {
      is_kind = holds.is_kind;
      shape = holds.shape;
      count = holds.count;
      nulls = holds.nulls;
      validity = ap if_some c.in_err-add_validity.ensures.kept ∙ holds.validity;
      bytes = narrow-same old.shape old.count values old.offsets.items had new c.requires.narrow same holds.bytes;
      fits = holds.fits;
    })

pub returns-in_err-put_bytes-clause-kept : goal.returns-in_err-put_bytes-clause-kept
returns-in_err-put_bytes-clause-kept c =
    let p = err_from_is_err_and c.from_residual.result c.from_residual.ensures.1 in
    let old = c.args.self.now in
    let had = old.bytes.items in
    let new = c.put_bytes.new.bytes.items in
    let same = subst (λ n. take n new ≡ take n had) c.last_end-start.ensures.is c.in_err-put_bytes.ensures.kept in
    rw p.1 (λ kind values holds. record {
      is_kind = holds.is_kind;
      shape = holds.shape;
      count = holds.count;
      nulls = holds.nulls;
      validity = holds.validity;
      bytes = narrow-same old.shape old.count values old.offsets.items had new c.requires.narrow same holds.bytes;
      fits = holds.fits;
    })

pub overflow_add-self-3 : goal.overflow_add-self-3
overflow_add-self-3 c =
    let few = c.requires.holds in omega (arith, few.2.nulls, few.3, nulls-few few.1, c.from.ensures, one c.args.null)

pub returns-clause-added : goal.returns-clause-added
returns-clause-added c value null bytes takes kind values holds =
    let old = c.args.self.now in
    let more = c.args.bytes.now in
    let had = old.bytes.items in
    let new = c.put_bytes.new.bytes.items in
    let is = c.last_end-start.ensures.is in
    let room : old.count * 4 + 8 ≤ length old.offsets.items = omega (arith, c.requires.place, old.offsets.ok.0) in
    let stored = subst (λ n. take (n + length more) new ≡ take n had ++ more) is c.in_ok-put_bytes.ensures.put in
    let put = subst (λ n. take (old.count * 4 + 4 + 4) c.put_number.new.bytes.items ≡ take (old.count * 4 + 4) old.offsets.items ++ le_bytes 4 (n + length more)) is
    c.put_number.ensures.put in
    more-holds old _ kind values value holds takes (record {
      is_kind = refl;
      shape = refl;
      count = refl;
      nulls = omega (arith, c.from.ensures, null-counted value c.args.null (sym null));
      validity = c.in_ok-add_validity.ensures.added values value (bits-held old kind values holds) null;
      bytes = narrow-more old.shape c.requires.narrow.0 old.count values value more old.offsets.items c.put_number.new.bytes.items had new
          c.requires.narrow.1 bytes holds.count (total-small old kind values value holds takes c.requires.narrow) room stored put holds.bytes;
    })
