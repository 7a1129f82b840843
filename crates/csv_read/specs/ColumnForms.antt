-- The form that the fields of each column are read in, and a builder for each column.
use Rattle.std.specs.Prelude.{◌≡◌, ◌<◌, ◌⊎◌, ℕ, Bool, true, false, List, [], length, get_or, Some}
use Rattle.col_build.specs.Holding.{Holds}
use Rattle.col_build.specs.declared.builder.Builder.{Builder}
use Rattle.data_types.specs.declared.kind.DataType.{DataType}
use Rattle.data_types.specs.promise.FieldText.{form_of}
use Rattle.data_types.specs.promise.Table.{Column, Flat}
use Rattle.data_types.specs.promise.Value.{Value}
use Rattle.field_codec.specs.FieldForms.{IsProper, form_in}
use Rattle.field_codec.specs.declared.form.FieldForm.{FieldForm}
use Rattle.field_codec.specs.declared.form.FieldForm.TheVariants as forms

abbrev pub is_text_form : FieldForm → Bool
is_text_form forms.Text = true
is_text_form _ = false

-- this many columns have one of their own each
pub record EachOf {X : Type 0} (IsOf : X → Column → Type 0) (xs : List X) (columns : List Column) (count : ℕ) : Type 0 where
  pub long : length xs ≡ count
  pub each : (j : ℕ) (x : X) (c : Column) → j < count → IsOf (get_or xs j x) (get_or columns j c)

-- the form is that of a column of plain values
pub record IsFormOf (form : FieldForm) (column : Column) : Type 0 where
  pub kind : DataType
  pub flat : column.kind ≡ Flat kind
  pub in_form : form_of kind ≡ Some (form_in form)
  pub proper : IsProper form

abbrev pub AreForms : List FieldForm → List Column → Type 0
AreForms forms columns = EachOf IsFormOf forms columns (length columns)

-- the builder is a column's, and holds no values
pub record IsBegun (builder : Builder) (column : Column) : Type 0 where
  pub kind : DataType
  pub flat : column.kind ≡ Flat kind
  pub holds : Holds builder kind []

abbrev pub AreBegun : List Builder → List Column → Type 0
AreBegun builders columns = EachOf IsBegun builders columns (length columns)

-- the builder is a column's, and holds some values
pub record IsKept (builder : Builder) (column : Column) : Type 0 where
  pub kind : DataType
  pub flat : column.kind ≡ Flat kind
  pub values : List Value
  pub holds : Holds builder kind values

abbrev pub AreKept : List Builder → List Column → Type 0
AreKept builders columns = EachOf IsKept builders columns (length columns)

-- there is no builder yet, or one for each column
abbrev pub AreReady : List Builder → List Column → Type 0
AreReady builders columns = (builders ≡ []) ⊎ AreKept builders columns
