-- The kinds of the columns of a header.
use Rattle.std.proofs.Common.{◌≡◌, ◌<◌, ◌∙◌, zero, suc, true, false, List, [], ◌∷◌, length, map, All, Option, None, Some, refl, sym, ap, subst, arith, inr}
use Rattle.std.proofs.lemmas.Bool.{false≢true}
use Rattle.std.proofs.lemmas.List.{get_or-map, length-map}
use Rattle.std.specs.Prelude.{is_some}
use Rattle.data_types.specs.ColumnForms.{AreColumnKinds, HasForm, IsColumnKind}
use Rattle.data_types.specs.ColumnView.{column_of}
use Rattle.data_types.specs.promise.FieldText.{Decimals, FloatBits, Form, Wholes, form_of}
use Rattle.data_types.specs.FieldText.{IsFlatKind, IsSomeFlat}
use Rattle.data_types.specs.promise.Kinds.{is_column_type}
use Rattle.data_types.specs.Kinds.{KindOk}
use Rattle.data_types.specs.promise.Table.{Column, Kind, Flat}
use Rattle.data_types.specs.declared.kind.ColumnType.{ColumnType}
use Rattle.data_types.specs.declared.kind.DataType.{DataType}
use Rattle.data_types.specs.declared.kind.DataType.TheVariants as kinds
use Rattle.col_build.proofs.ShapeFacts.{common-bits, is_common, of-tick}
use Rattle.field_codec.specs.TextColumns.{AreAllowed, AreProper}
use Rattle.arr_export.specs.SchemaSize.{AreFlat}
use Rattle.schema_check.specs.ColumnSchema.{KindsOk}
use Rattle.stream_face.specs.Lawful.{DictsHaveBytes, column_leaves, leaves}

-- ---- the forms of flat kinds
some-form : (form : Option Form) → is_some form ≡ true → HasForm form
some-form None is = absurd (false≢true is)
some-form (Some form) is = tt

column-form : (kind : DataType) → is_column_type kind ≡ true → HasForm (form_of kind)
column-form (kinds.FixedBinary size) is = tt
column-form (kinds.Decimal precision scale false) is = tt
column-form (kinds.Decimal precision scale true) is = absurd (false≢true is)
column-form kind is = some-form (form_of kind) is

common-flat : (form : Option Form) → is_common form ≡ true → HasForm form → IsSomeFlat form
common-flat (Some (Wholes bits signed)) is has = inr (inr (common-bits bits is))
common-flat (Some (FloatBits bits)) is has = absurd (false≢true is)
common-flat (Some (Decimals precision places)) is has = absurd (false≢true is)
common-flat None is has = absurd has
common-flat _ is has = tt

-- the numbers of a form are those of its type
flat-kind : (kind : DataType) → KindOk kind → HasForm (form_of kind) → IsFlatKind kind
flat-kind (kinds.Int bits signed) ok has = ok
flat-kind (kinds.Float bits) ok has = ok
flat-kind (kinds.FixedBinary size) ok has = tt
flat-kind (kinds.Decimal precision scale false) ok has = ok.1
flat-kind (kinds.Decimal precision scale true) ok has = absurd has
flat-kind (kinds.TimeOfDay tick) ok has = common-flat (form_of (kinds.TimeOfDay tick)) (of-tick tick) has
flat-kind kind ok has = common-flat (form_of kind) refl has

-- ---- plain columns
-- plain values of a flat column kind
pub record IsPlain (column : Column) : Type 0 where
  pub kind : DataType
  pub is : column.kind ≡ Flat kind
  pub ok : IsColumnKind kind
  pub flat : IsFlatKind kind

pub plain-columns : (columns : List Column) → AreProper columns → AreAllowed columns → All IsPlain columns
plain-columns columns proper allowed k d small =
    let (kind, is, ok) = proper k d small in
    let (other, same, may) = allowed k d small in
    let both : ◌≡◌ {A = Kind} (Flat other) (Flat kind) = sym same ∙ is in
    let one : other ≡ kind = cc in
    let has = column-form kind (subst (λ x. is_column_type x ≡ true) one may) in
    record { kind = kind; is = is; ok = (ok, has); flat = flat-kind kind ok has }

pub have-kinds : (columns : List Column) → All IsPlain columns → All (λ column. AreColumnKinds column.kind) columns
have-kinds columns plain k d small = let p = plain k d small in subst AreColumnKinds (sym p.is) p.ok

pub no-dicts : (columns : List Column) → All IsPlain columns → All (λ column. DictsHaveBytes column.kind) columns
no-dicts columns plain k d small = subst DictsHaveBytes (sym (plain k d small).is) tt

pub plain-leaves : (columns : List Column) → All IsPlain columns → column_leaves columns ≡ length columns
plain-leaves [] plain = omega arith
plain-leaves (c ∷ cs) plain =
    let one : leaves c.kind ≡ 1 = ap leaves (plain zero c (omega arith)).is in
    let rest = plain-leaves cs (λ k d small. plain (suc k) d (omega (arith, small))) in
    omega (arith, one, rest)

pub proper-flat : (columns : List Column) → AreProper columns → AreFlat columns
proper-flat columns proper k d small = ((proper k d small).0, (proper k d small).1)

pub proper-kinds : (columns : List ColumnType) → AreProper (map column_of columns) → All (λ c. KindsOk (column_of c).kind) columns
proper-kinds columns proper k d small =
    let there = proper k (column_of d) (subst (λ n. k < n) (sym (length-map columns column_of)) small) in
    subst (λ c. KindsOk c.kind) (get_or-map column_of columns k d (column_of d) small) (subst KindsOk (sym there.1) there.2)
