-- How the values of a column are stored, by the form that its fields are read in.
use Rattle.std.proofs.Common.{◌≡◌, ◌∙◌, ◌*◌, ◌/◌, ℕ, Bool, true, false, Some, ap, inl, inr, refl, subst, sym}
use Rattle.col_build.specs.Holding.{HoldsFloats, HoldsWholes}
use Rattle.col_build.specs.declared.builder.Builder.{Builder}
use Rattle.data_types.specs.promise.FieldText.{Decimals, FloatBits, Wholes, form_of, stored_form}
use Rattle.data_types.specs.FieldText.{IsFlatForm}
use Rattle.data_types.specs.promise.Storage.{storage_of}
use Rattle.data_types.specs.declared.kind.DataType.{DataType}
use Rattle.data_types.specs.declared.kind.DataType.TheVariants as kinds
use Rattle.data_types.specs.declared.storage.Storage.{Storage}
use Rattle.data_types.specs.declared.storage.Storage.TheVariants as stored
use Rattle.csv_read.specs.BodyRows.{HasRoom, IsOfForm}
use Rattle.field_codec.specs.FieldForms.{form_in}
use Rattle.field_codec.specs.declared.form.FieldForm.{FieldForm}
use Rattle.field_codec.specs.declared.form.FieldForm.TheVariants as field_form

-- a column has one form
pub room-form : (form : FieldForm) (builder : Builder) (size : ℕ) → HasRoom form builder size → IsOfForm form builder
room-form form builder size room kind values holds =
    subst (λ (k : DataType). form_of k ≡ Some (form_in form)) (sym room.holds.is_kind ∙ holds.is_kind) room.in_form

-- ---- whole numbers

wholes-in : (storage : Storage) (bits : ℕ) (signed : Bool) → stored_form storage ≡ Some (Wholes bits signed) → storage ≡ stored.Wholes bits signed
wholes-in (stored.Wholes b s) bits signed e = cc
wholes-in stored.Nothing bits signed e = absurd cc
wholes-in stored.Truths bits signed e = absurd cc
wholes-in (stored.Floats b) bits signed e = absurd cc
wholes-in (stored.Sized size) bits signed e = absurd cc
wholes-in (stored.Between wide false) bits signed e = absurd cc
wholes-in (stored.Between wide true) bits signed e = absurd cc
wholes-in (stored.Lists wide) bits signed e = absurd cc
wholes-in (stored.FixedLists size) bits signed e = absurd cc
wholes-in stored.Children bits signed e = absurd cc
wholes-in (stored.Views text) bits signed e = absurd cc

wholes-stored : (kind : DataType) (bits : ℕ) (signed : Bool) → form_of kind ≡ Some (Wholes bits signed) → storage_of kind ≡ stored.Wholes bits signed
wholes-stored (kinds.Decimal precision scale false) bits signed e = absurd cc
wholes-stored (kinds.Decimal precision scale true) bits signed e = absurd cc
wholes-stored kinds.IntervalDayTime bits signed e = absurd cc
wholes-stored kinds.IntervalMonthDayNano bits signed e = absurd cc
wholes-stored kind bits signed e = wholes-in (storage_of kind) bits signed e

eighths : (bits : ℕ) (signed : Bool) → IsFlatForm (Wholes bits signed) → bits ≡ 8 * (bits / 8)
eighths bits signed (inl e) = rw e refl
eighths bits signed (inr (inl e)) = rw e refl
eighths bits signed (inr (inr (inl e))) = rw e refl
eighths bits signed (inr (inr (inr e))) = rw e refl

pub holds-wholes : (bits : ℕ) (signed : Bool) (builder : Builder) → IsFlatForm (Wholes bits signed) → IsOfForm (field_form.Wholes bits signed) builder
    → HoldsWholes (bits / 8) builder
holds-wholes bits signed builder flat form kind values holds = (
  signed,
  wholes-stored kind bits signed (form kind values holds) ∙ ap (λ (n : ℕ). stored.Wholes n signed) (eighths bits signed flat),
)

-- ---- decimals

no-decimals : (storage : Storage) (precision places : ℕ) → stored_form storage ≡ Some (Decimals precision places) → ⊥
no-decimals (stored.Wholes b s) precision places e = cc
no-decimals stored.Nothing precision places e = cc
no-decimals stored.Truths precision places e = cc
no-decimals (stored.Floats b) precision places e = cc
no-decimals (stored.Sized size) precision places e = cc
no-decimals (stored.Between wide false) precision places e = cc
no-decimals (stored.Between wide true) precision places e = cc
no-decimals (stored.Lists wide) precision places e = cc
no-decimals (stored.FixedLists size) precision places e = cc
no-decimals stored.Children precision places e = cc
no-decimals (stored.Views text) precision places e = cc

decimals-stored : (kind : DataType) (precision places : ℕ) → form_of kind ≡ Some (Decimals precision places) → storage_of kind ≡ stored.Wholes 128 true
decimals-stored (kinds.Decimal p s false) precision places e = refl
decimals-stored (kinds.Decimal p s true) precision places e = absurd cc
decimals-stored kinds.IntervalDayTime precision places e = absurd cc
decimals-stored kinds.IntervalMonthDayNano precision places e = absurd cc
decimals-stored kind precision places e = absurd (no-decimals (storage_of kind) precision places e)

pub holds-decimals : (precision places : ℕ) (builder : Builder) → IsOfForm (field_form.Decimals precision places) builder → HoldsWholes 16 builder
holds-decimals precision places builder form kind values holds = (true, decimals-stored kind precision places (form kind values holds))

-- ---- floats

floats-in : (storage : Storage) (bits : ℕ) → stored_form storage ≡ Some (FloatBits bits) → storage ≡ stored.Floats bits
floats-in (stored.Floats b) bits e = cc
floats-in (stored.Wholes b s) bits e = absurd cc
floats-in stored.Nothing bits e = absurd cc
floats-in stored.Truths bits e = absurd cc
floats-in (stored.Sized size) bits e = absurd cc
floats-in (stored.Between wide false) bits e = absurd cc
floats-in (stored.Between wide true) bits e = absurd cc
floats-in (stored.Lists wide) bits e = absurd cc
floats-in (stored.FixedLists size) bits e = absurd cc
floats-in stored.Children bits e = absurd cc
floats-in (stored.Views text) bits e = absurd cc

floats-stored : (kind : DataType) (bits : ℕ) → form_of kind ≡ Some (FloatBits bits) → storage_of kind ≡ stored.Floats bits
floats-stored (kinds.Decimal precision scale false) bits e = absurd cc
floats-stored (kinds.Decimal precision scale true) bits e = absurd cc
floats-stored kinds.IntervalDayTime bits e = absurd cc
floats-stored kinds.IntervalMonthDayNano bits e = absurd cc
floats-stored kind bits e = floats-in (storage_of kind) bits e

float-eighths : (bits : ℕ) → IsFlatForm (FloatBits bits) → bits ≡ 8 * (bits / 8)
float-eighths bits (inl e) = rw e refl
float-eighths bits (inr (inl e)) = rw e refl
float-eighths bits (inr (inr e)) = rw e refl

pub holds-floats : (bits : ℕ) (builder : Builder) → IsFlatForm (FloatBits bits) → IsOfForm (field_form.FloatBits bits) builder
    → HoldsFloats (bits / 8) builder
holds-floats bits builder flat form kind values holds =
    floats-stored kind bits (form kind values holds) ∙ ap (λ (n : ℕ). stored.Floats n) (float-eighths bits flat)
