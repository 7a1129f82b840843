use Rattle.std.proofs.Common.{◌≡◌, ◌∙◌, ◌∷◌, [], ◌++◌, ◌<◌, ◌^◌, ◌⊎◌, ℕ, List, length, ap, subst, sym, arith, length-append}
use Rattle.std.proofs.lemmas.Result.{err_from_is_err_and}
use Rattle.std.specs.Prelude.{Option, None, Some}
use Rattle.data_types.specs.promise.FieldText.{form_of}
use Rattle.col_build.specs.promise.Encoding.{if_some, is_wide}
use Rattle.col_build.specs.Encoding.{push_fault}
use Rattle.col_build.specs.Holding.{HasBytes, HasValidity}
use Rattle.col_build.specs.Items.{value_of}
use Rattle.col_build.specs.declared.item.PushFault.{PushFault}
use Rattle.col_build.specs.declared.shape.Shape.{Shape}
use Rattle.col_build.specs.declared.item.PushFault.TheVariants.{NoMemory}
use Rattle.col_build.proofs.FitsFacts.{fits-more, total-bounded}
use Rattle.col_build.proofs.LaidAs.{laid-back, laid-has}
use Rattle.col_build.proofs.MadeAhead.{whole_holds}
use Rattle.col_build.proofs.Pushes.{fault-held, validity-held}
use Rattle.col_build.proofs.ShapeFacts.{shape-same}
use Rattle.col_build.proofs.ValidityFacts.{null-counted, nulls-few, nulls-push}
use Rattle.col_build.proofs.builder.Builder.push_as.Goals as goal

pub returns-in_err-store-clause-answer : goal.returns-in_err-store-clause-answer
returns-in_err-store-clause-answer c kind values holds =
    let value = value_of c.args.item in
    let p = err_from_is_err_and c.from_residual-in_err-store.result c.from_residual-in_err-store.ensures.1 in
    let P : Option PushFault → Type 0 = λ fault. (c.in_err-store.field-0.0 ≡ NoMemory) ⊎ (fault ≡ Some c.in_err-store.field-0.0) in
    rw (p.1, p.2) (subst P (c.requires.same ∙ fault-held c.args.self.now kind values value holds) c.in_err-store.ensures.answer)

pub returns-in_err-store-clause-kept : goal.returns-in_err-store-clause-kept
returns-in_err-store-clause-kept c =
    let p = err_from_is_err_and c.from_residual-in_err-store.result c.from_residual-in_err-store.ensures.1 in
    let shape = c.args.shape in
    let own = c.args.self.now.shape in
    rw p.1 (λ kind values holds.
    let was = laid-has shape own values c.args.self.now.offsets.items c.args.self.now.bytes.items c.requires.laid holds.bytes in
    whole_holds _ kind values (record {
      is_kind = holds.is_kind;
      shape = holds.shape;
      count = holds.count;
      nulls = holds.nulls;
      validity = ap if_some c.make_room.ensures.items ∙ holds.validity;
      bytes = laid-back shape own values c.store.new.offsets.items c.store.new.bytes.items c.requires.laid (c.in_err-store.ensures.kept values was);
      fits = holds.fits;
    }))

pub overflow_add-self-2 : goal.overflow_add-self-2
overflow_add-self-2 c =
    let holds = c.requires.holds.2 in
    let value = value_of c.args.item in
    omega (
      arith,
      holds.nulls,
      c.requires.holds.3,
      nulls-few c.requires.holds.1,
      c.from.ensures,
      null-counted value c.is_null-null.result c.is_null-null.ensures,
      nulls-few (value ∷ []),
    )

pub returns-clause-answer : goal.returns-clause-answer
returns-clause-answer c kind values holds =
    sym (c.requires.same ∙ fault-held c.args.self.now kind values (value_of c.args.item) holds) ∙ c.in_ok-store.ensures.answer

pub returns-clause-added : goal.returns-clause-added
returns-clause-added c kind values holds =
    let value = value_of c.args.item in
    let taken : push_fault kind values value ≡ None =
    sym (c.requires.same ∙ fault-held c.args.self.now kind values value holds) ∙ c.in_ok-store.ensures.answer in
    let shape = c.args.shape in
    let own = c.args.self.now.shape in
    let was = laid-has shape own values c.args.self.now.offsets.items c.args.self.now.bytes.items c.requires.laid holds.bytes in
    let bytes =
    laid-back shape own (values ++ value ∷ []) c.store.new.offsets.items c.store.new.bytes.items c.requires.laid
    (c.in_ok-store.ensures.added values (sym holds.count) was) in
    let short : length c.store.new.bytes.items < 2 ^ 63 = omega (arith, c.store.new.bytes.ok, c.store.new.bytes.small) in
    let few : length values < 2 ^ 40 = omega (arith, holds.count, c.requires.holds.2.count, c.requires.holds.3) in
    let HasBits : List ℕ → Type 0 = λ bits. HasValidity bits c.args.self.now.count c.args.self.now.nulls values in
    let validity : HasValidity c.make_room.new.validity.items c.args.self.now.count c.args.self.now.nulls values = subst HasBits (sym c.make_room.ensures.items)
    (validity-held c.args.self.now kind values holds) in
    let HasShape : Shape → Type 0 = λ s. HasBytes s (values ++ value ∷ []) c.store.new.offsets.items c.store.new.bytes.items in
    let shaped = subst HasShape (holds.shape ∙ shape-same kind holds.fits.flat) bytes in
    let bounded = total-bounded (is_wide kind) (form_of kind) (values ++ value ∷ []) c.store.new.offsets.items c.store.new.bytes.items shaped short in
    whole_holds _ kind (values ++ value ∷ []) (record {
      is_kind = holds.is_kind;
      shape = holds.shape;
      count = omega (arith, holds.count, length-append values (value ∷ []));
      nulls = omega (arith, holds.nulls, c.from.ensures, nulls-push values value, null-counted value c.is_null-null.result c.is_null-null.ensures);
      validity = c.push_validity.ensures values value validity (sym c.is_null-null.ensures);
      bytes = bytes;
      fits = fits-more kind values value holds.fits taken few bounded;
    })

pub returns-in_err-make_room-clause-kept : goal.returns-in_err-make_room-clause-kept
returns-in_err-make_room-clause-kept c = grind (arith, whole_holds)
