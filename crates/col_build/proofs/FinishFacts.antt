-- A finished builder's buffers are those of the encoding of its values.
use Rattle.std.proofs.Common.{◌≡◌, ◌∙◌, ◌+◌, ℕ, Bool, true, false, List, [], ◌∷◌, refl, sym, ap, arith, subst}
use Rattle.std.specs.Prelude.{Option, None, Some, map}
use Rattle.std.specs.List.{concat}
use Rattle.data_types.specs.promise.FieldText.{Form, Truths, Wholes, FloatBits, Text, HexBytes, SizedHex, Decimals, form_of}
use Rattle.data_types.specs.promise.Value.{Value, bytes_of}
use Rattle.data_types.specs.declared.kind.DataType.{DataType}
use Rattle.col_build.specs.Blocks.{AreSame, AreSameBut, count_if}
use Rattle.col_build.specs.promise.Encoding.{buffers_if, encoded, if_some, is_wide, validity_of}
use Rattle.col_build.specs.Encoding.{offset_bytes, HasForm}
use Rattle.col_build.specs.promise.Finished.{blocks_of, present_count}
use Rattle.col_build.specs.Holding.{HasBytes, HasOffsets}
use Rattle.col_build.specs.Settled.{HoldsWhole}
use Rattle.col_build.specs.declared.builder.Builder.{Builder}
use Rattle.col_build.specs.declared.shape.Shape.{Shape}
use Rattle.col_build.specs.declared.shape.Shape.TheVariants as shapes
use Rattle.col_build.proofs.OffsetBytes.{offsets-some}
use Rattle.col_build.proofs.ShapeFacts.{shape_if, shape-same}
use Rattle.col_build.proofs.ValidityFacts.{shown-some}

-- items between offsets
abbrev pub IsBetween : Shape → Type 0
IsBetween shape = (wide : Bool) × (text : Bool) × (shape ≡ shapes.Between wide text)

-- ---- the buffers of the encoding

in-place : (wide : Bool) (form : Option Form) (values : List Value) (offsets bytes : List ℕ) → HasForm form → (IsBetween (shape_if wide form) → ⊥)
    → HasBytes (shape_if wide form) values offsets bytes
    → buffers_if wide form values ≡ validity_of values ∷ if_some bytes ∷ []
in-place wide None values offsets bytes flat other has = absurd flat
in-place wide (Some Truths) values offsets bytes flat other has = ap (λ (b : List ℕ). validity_of values ∷ if_some b ∷ []) (sym has)
in-place wide (Some (Wholes bits signed)) values offsets bytes flat other has = ap (λ (b : List ℕ). validity_of values ∷ if_some b ∷ []) (sym has)
in-place wide (Some (FloatBits bits)) values offsets bytes flat other has = ap (λ (b : List ℕ). validity_of values ∷ if_some b ∷ []) (sym has)
in-place wide (Some Text) values offsets bytes flat other has = absurd (other (wide, true, refl))
in-place wide (Some HexBytes) values offsets bytes flat other has = absurd (other (wide, false, refl))
in-place wide (Some (SizedHex size)) values offsets bytes flat other has = ap (λ (b : List ℕ). validity_of values ∷ if_some b ∷ []) (sym has)
in-place wide (Some (Decimals precision places)) values offsets bytes flat other has = ap (λ (b : List ℕ). validity_of values ∷ if_some b ∷ []) (sym has)

same-text : (wide text : Bool) (values : List Value) (offsets bytes : List ℕ) → offsets ≡ offset_bytes wide (map bytes_of values)
    → bytes ≡ concat (map bytes_of values)
    → validity_of values ∷ Some (offset_bytes wide (map bytes_of values)) ∷ if_some (concat (map bytes_of values)) ∷ []
    ≡ validity_of values ∷ if_some offsets ∷ if_some bytes ∷ []
same-text wide text values offsets bytes begun are =
    let there : if_some offsets ≡ Some (offset_bytes wide (map bytes_of values)) =
    ap if_some begun ∙ shown-some (offset_bytes wide (map bytes_of values)) (offsets-some wide (map bytes_of values)) in
    ap (λ (o : Option (List ℕ)). validity_of values ∷ o ∷ if_some (concat (map bytes_of values)) ∷ []) (sym there)
    ∙ ap (λ (b : List ℕ). validity_of values ∷ if_some offsets ∷ if_some b ∷ []) (sym are)

between : (wide : Bool) (form : Option Form) (values : List Value) (offsets bytes : List ℕ) (w t : Bool) → HasForm form
    → shape_if wide form ≡ shapes.Between w t
    → offsets ≡ offset_bytes w (map bytes_of values) → bytes ≡ concat (map bytes_of values)
    → buffers_if wide form values ≡ validity_of values ∷ if_some offsets ∷ if_some bytes ∷ []
between wide None values offsets bytes w t flat is begun are = absurd flat
between wide (Some Truths) values offsets bytes w t flat is begun are = cc
between wide (Some (Wholes bits signed)) values offsets bytes w t flat is begun are = cc
between wide (Some (FloatBits bits)) values offsets bytes w t flat is begun are = cc
between wide (Some Text) values offsets bytes w t flat is begun are =
    let same : w ≡ wide = cc in same-text wide t values offsets bytes (begun ∙ ap (λ x. offset_bytes x (map bytes_of values)) same) are
between wide (Some HexBytes) values offsets bytes w t flat is begun are =
    let same : w ≡ wide = cc in same-text wide t values offsets bytes (begun ∙ ap (λ x. offset_bytes x (map bytes_of values)) same) are
between wide (Some (SizedHex size)) values offsets bytes w t flat is begun are = cc
between wide (Some (Decimals precision places)) values offsets bytes w t flat is begun are = cc

pub shaped : (builder : Builder) (kind : DataType) (values : List Value) → HoldsWhole builder kind values → builder.shape ≡ shape_if (is_wide kind) (form_of kind)
shaped builder kind values holds = holds.shape ∙ shape-same kind holds.fits.flat

pub held-in-place : (builder : Builder) (kind : DataType) (values : List Value) → HoldsWhole builder kind values → (IsBetween builder.shape → ⊥)
    → (encoded kind values).buffers ≡ if_some builder.validity.items ∷ if_some builder.bytes.items ∷ []
held-in-place builder kind values holds other =
    let Has : Shape → Type 0 = λ shape. HasBytes shape values builder.offsets.items builder.bytes.items in
    let Other : Shape → Type 0 = λ shape. IsBetween shape → ⊥ in
    let is = shaped builder kind values holds in
    in-place (is_wide kind) (form_of kind) values builder.offsets.items builder.bytes.items holds.fits.flat (subst Other is other) (subst Has is holds.bytes)
    ∙ ap (λ v. v ∷ if_some builder.bytes.items ∷ []) (sym holds.validity)

-- ---- how many there are

pub count-two : (a b : List ℕ) → present_count (if_some a ∷ if_some b ∷ []) ≡ count_if a + count_if b
count-two [] [] = omega arith
count-two [] (y ∷ b) = omega arith
count-two (x ∷ a) [] = omega arith
count-two (x ∷ a) (y ∷ b) = omega arith

pub count-three : (a b c : List ℕ) → present_count (if_some a ∷ if_some b ∷ if_some c ∷ []) ≡ count_if a + count_if b + count_if c
count-three [] b c = omega (arith, count-two b c)
count-three (x ∷ a) b c = omega (arith, count-two b c)

pub blocks-in-place : (builder : Builder) (kind : DataType) (values : List Value) → HoldsWhole builder kind values → (IsBetween builder.shape → ⊥)
    → count_if builder.validity.items + count_if builder.bytes.items ≡ blocks_of kind values
blocks-in-place builder kind values holds other =
    sym (ap present_count (held-in-place builder kind values holds other) ∙ count-two builder.validity.items builder.bytes.items)

-- ---- a builder of items between offsets, and its values
module _ (builder : Builder) (kind : DataType) (values : List Value) (wide text : Bool) (holds : HoldsWhole builder kind values)
    (is : builder.shape ≡ shapes.Between wide text) where
  bytes-held : HasBytes (shapes.Between wide text) values builder.offsets.items builder.bytes.items
  bytes-held = let Has : Shape → Type 0 = λ shape. HasBytes shape values builder.offsets.items builder.bytes.items in subst Has is holds.bytes

  pub held-between : (offsets : List ℕ) → offsets ≡ offset_bytes wide (map bytes_of values)
      → (encoded kind values).buffers ≡ if_some builder.validity.items ∷ if_some offsets ∷ if_some builder.bytes.items ∷ []
  held-between offsets begun =
      between (is_wide kind) (form_of kind) values offsets builder.bytes.items wide text holds.fits.flat
      (sym (shaped builder kind values holds) ∙ is) begun bytes-held.1
      ∙ ap (λ v. v ∷ if_some offsets ∷ if_some builder.bytes.items ∷ []) (sym holds.validity)

  -- its offsets
  pub offsets-held : HasOffsets wide (map bytes_of values) builder.offsets.items
  offsets-held = bytes-held.0

  pub blocks-between : count_if builder.validity.items + count_if (offset_bytes wide (map bytes_of values)) + count_if builder.bytes.items
      ≡ blocks_of kind values
  blocks-between =
      sym (
      ap present_count (held-between (offset_bytes wide (map bytes_of values)) refl)
      ∙ count-three builder.validity.items (offset_bytes wide (map bytes_of values)) builder.bytes.items
      )

-- ---- what stays where there is no memory

pub same-holds : (old new : Builder) (kind : DataType) (values : List Value) → AreSame old new → HoldsWhole old kind values → HoldsWhole new kind values
same-holds old new kind values same holds =
    let HasShape : Shape → Type 0 = λ shape. HasBytes shape values old.offsets.items old.bytes.items in
    let HasOffs : List ℕ → Type 0 = λ offsets. HasBytes new.shape values offsets old.bytes.items in
    let Has : List ℕ → Type 0 = λ bytes. HasBytes new.shape values new.offsets.items bytes in
    record {
      is_kind = same.is_kind ∙ holds.is_kind;
      shape = same.shape ∙ holds.shape;
      count = same.count ∙ holds.count;
      nulls = same.nulls ∙ holds.nulls;
      validity = ap if_some same.validity ∙ holds.validity;
      bytes = subst Has (sym same.bytes) (subst HasOffs (sym same.offsets) (subst HasShape (sym same.shape) holds.bytes));
      fits = holds.fits;
    }

pub same-but-holds : (old new : Builder) (kind : DataType) (values : List Value) (wide text : Bool) → old.shape ≡ shapes.Between wide text
    → AreSameBut wide (map bytes_of values) old new → HoldsWhole old kind values
    → HoldsWhole new kind values
same-but-holds old new kind values wide text is same holds =
    let HasShape : Shape → Type 0 = λ shape. HasBytes shape values old.offsets.items old.bytes.items in
    let HasNew : Shape → Type 0 = λ shape. HasBytes shape values new.offsets.items new.bytes.items in
    let bytes = subst HasShape is holds.bytes in
    record {
      is_kind = same.is_kind ∙ holds.is_kind;
      shape = same.shape ∙ holds.shape;
      count = same.count ∙ holds.count;
      nulls = same.nulls ∙ holds.nulls;
      validity = ap if_some same.validity ∙ holds.validity;
      bytes = subst HasNew (sym (same.shape ∙ is)) (same.offsets, same.bytes ∙ bytes.1);
      fits = holds.fits;
    }

-- ---- a builder whose buffers were moved away

pub none-in-place : (shape : Shape) (offsets bytes : List ℕ) → (IsBetween shape → ⊥) → bytes ≡ [] → HasBytes shape [] offsets bytes
none-in-place shapes.Truths offsets bytes other none = none
none-in-place (shapes.Wholes width signed) offsets bytes other none = none
none-in-place (shapes.Floats width) offsets bytes other none = none
none-in-place (shapes.Sized size) offsets bytes other none = none
none-in-place (shapes.Between wide text) offsets bytes other none = absurd (other (wide, text, refl))
