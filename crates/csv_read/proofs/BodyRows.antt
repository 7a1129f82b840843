-- One more field, and one more row, for the columns of a body.
use Rattle.std.proofs.Common.{◌≡◌, ◌≤◌, ◌<◌, ◌+◌, ◌++◌, ◌∙◌, ℕ, zero, suc, true, List, [], ◌∷◌, length, map, drop, get_or, set, Option, Some, None, Result, Ok}
use Rattle.std.proofs.Common.{Err, refl, sym, ap, subst, arith, inl, inr, length-append, append_assoc, append-nil}
use Rattle.std.proofs.Math.Seq.{get_or-append_seam}
use Rattle.std.proofs.lemmas.Bool.{cases_eq}
use Rattle.std.proofs.lemmas.Bool.Decides.{nat_tests}
use Rattle.std.proofs.lemmas.List.{drop_all, get_or-map, get_or-set_other, get_or-set_same, get_or_append_left, length-map, map-append}
use Rattle.std.proofs.lemmas.List.Elements.{All-get_or}
use Rattle.std.specs.Prelude.{◌==◌, All}
use Rattle.col_build.specs.Holding.{Holds, HoldsSome}
use Rattle.col_build.specs.declared.builder.Builder.{Builder}
use Rattle.data_types.specs.declared.kind.DataType.{DataType}
use Rattle.data_types.specs.declared.kind.ColumnType.{ColumnType}
use Rattle.data_types.specs.ColumnView.{column_of}
use Rattle.data_types.specs.promise.FieldText.{read_field}
use Rattle.data_types.specs.promise.Table.{Column, Columns, Flat, Kind, Row, no_members}
use Rattle.data_types.specs.promise.Value.{Value, Null, bytes_of}
use Rattle.csv_model.specs.promise.Reading.{Record, field_in, row_of, values_from, values_step, with_value}
use Rattle.data_types.specs.declared.row_fault.RowFault.{RowFault}
use Rattle.data_types.specs.declared.row_fault.RowFault.TheVariants as row
use Rattle.csv_read.specs.Body.{column_values}
use Rattle.csv_read.specs.BodyRows.{AddsField, AddsFields, AddsRow, HasField, HasFields, HasRoom, HasRoomFor, HasRows, HoldRows, IsColumnOf}
use Rattle.csv_read.specs.ColumnForms.{AreBegun, AreForms, EachOf}
use Rattle.csv_read.specs.BodyRows.{IsRowFault, RefusesFields, RefusesRow, SpellsNone, with_values}
use Rattle.field_codec.specs.FieldForms.{IsProper}
use Rattle.field_codec.specs.TextColumns.{IsFlatOf}
use Rattle.csv_read.specs.declared.body.BodyFault.{BodyFault}
use Rattle.csv_read.specs.declared.body_columns.BodyColumns.{BodyColumns}
use Rattle.field_codec.specs.declared.form.FieldForm.{FieldForm}
use Rattle.field_codec.specs.declared.form.FieldForm.TheVariants.{Truths}
use Rattle.stage_plan.proofs.Twice.{rest-cons}

-- a column, where one has to be named
abbrev no_column : Column
no_column = record { name = []; kind = Columns no_members }

-- ---- no rows

-- one column more
pub one-more : {X : Type 0} (IsOf : X → Column → Type 0) (xs : List X) (columns : List ColumnType) (count : ℕ) (x : X) (item : ColumnType)
    → EachOf IsOf xs (map column_of columns) count → count < length columns → item ≡ get_or columns count item → IsOf x (column_of item)
    → EachOf IsOf (xs ++ x ∷ []) (map column_of columns) (count + 1)
one-more IsOf xs columns count x item before within is own = record {
  long = omega (arith, before.long, length-append xs (x ∷ []));
  each = λ j y c below.
      elim (cases_eq j count) [
        | inl here ↦
            let x_at : get_or (xs ++ x ∷ []) j y ≡ x =
            subst (λ (n : ℕ). get_or (xs ++ x ∷ []) n y ≡ x) (before.long ∙ sym here) (get_or-append_seam xs x [] y) in
            let column_at : get_or (map column_of columns) j c ≡ column_of item =
            ap (λ (n : ℕ). get_or (map column_of columns) n c) here ∙ get_or-map column_of columns count item c within ∙ ap column_of (sym is) in
            rw (x_at, column_at) own
        | inr other ↦
            let x_at : get_or (xs ++ x ∷ []) j y ≡ get_or xs j y = get_or_append_left xs (x ∷ []) y j (omega (arith, below, other, before.long)) in
            rw x_at (before.each j y c (omega (arith, below, other)))
      ];
}

-- all columns
pub each-of-all : {X : Type 0} (IsOf : X → Column → Type 0) (xs : List X) (columns : List ColumnType) (count : ℕ)
    → EachOf IsOf xs (map column_of columns) count → count ≡ length columns → EachOf IsOf xs (map column_of columns) (length (map column_of columns))
each-of-all IsOf xs columns count all end =
    subst (EachOf IsOf xs (map column_of columns)) (end ∙ sym (length-map columns column_of)) all

-- no column yet
pub each-of-none : {X : Type 0} (IsOf : X → Column → Type 0) (columns : List Column) → EachOf IsOf [] columns 0
each-of-none IsOf columns = record { long = refl; each = λ j x c below. absurd (omega arith) }

same-flat : (a b : DataType) → Flat a ≡ Flat b → a ≡ b
same-flat a b e = cc

-- a form and an empty builder a column are columns without rows
pub no-rows : (made : BodyColumns) (columns : List Column) → AreForms made.forms.items columns → AreBegun made.builders.items columns → made.rows ≡ 0
    → HasRows made columns []
no-rows made columns forms begun none = record {
  held = record {
    forms_count = forms.long;
    builders_count = begun.long;
    each = λ j f b c within.
        let form = forms.each j f c within in
        let builder = begun.each j b c within in
        let same : builder.kind ≡ form.kind = same-flat builder.kind form.kind (sym builder.flat ∙ form.flat) in
        record {
          kind = form.kind;
          flat = form.flat;
          in_form = form.in_form;
          proper = form.proper;
          holds = subst (λ (k : DataType). Holds (get_or made.builders.items j b) k []) same builder.holds;
        };
  };
  height = none;
}

-- the type of a column that has the property
pub column-kind : (P : DataType → Type 0) (columns : List ColumnType) (j : ℕ) (item : ColumnType) → All (IsFlatOf P) (map column_of columns)
    → j < length columns → item ≡ get_or columns j item → IsFlatOf P (column_of item)
column-kind P columns j item all within is =
    let inside : j < length (map column_of columns) = omega (arith, within, length-map columns column_of) in
    subst (IsFlatOf P) (get_or-map column_of columns j item (column_of item) within ∙ ap column_of (sym is))
    (All-get_or (IsFlatOf P) (map column_of columns) j (column_of item) inside all)

-- each builder of a column holds some values
pub all-held : (forms : List FieldForm) (builders : List Builder) (columns : List Column) (rows : List Row) → HoldRows forms builders columns rows
    → (j : ℕ) (b : Builder) → j < length builders → HoldsSome (get_or builders j b)
all-held forms builders columns rows held j b within =
    let column = held.each j Truths b no_column (omega (arith, within, held.builders_count)) in
    (column.kind, column_values j rows, column.holds)

-- ---- one field

any-default : {X : Type 0} (xs : List X) (j : ℕ) (d e : X) → j < length xs → get_or xs j d ≡ get_or xs j e
any-default [] j d e within = absurd (omega arith)
any-default (x ∷ xs) zero d e within = refl
any-default (x ∷ xs) (suc j) d e within = any-default xs j d e (omega arith)

-- each form is one of a type
pub form-proper : (forms : List FieldForm) (builders : List Builder) (fields : Record) (room : HasRoomFor forms builders fields) (j : ℕ) (f : FieldForm)
    (b : Builder) → j < length forms → IsProper (get_or forms j f)
form-proper forms builders fields room j f b within = (room.held.each j f b no_column (omega (arith, within, room.held.forms_count))).proper

-- there is room for each field
pub field-room : (forms : List FieldForm) (builders : List Builder) (fields : Record) (room : HasRoomFor forms builders fields) (j : ℕ) (f : FieldForm)
    (b : Builder) → j < length forms
    → HasRoom (get_or forms j f) (get_or builders j b) (length (get_or fields j []))
field-room forms builders fields room j f b within =
    let inside : j < length room.columns = omega (arith, within, room.held.forms_count) in
    let column = room.held.each j f b no_column inside in
    record {
      kind = column.kind;
      values = column_values j room.rows;
      in_form = column.in_form;
      holds = column.holds;
      few = omega (arith, length-map room.rows (λ (r : Row). get_or r j Null), room.few);
      bytes = room.bytes j inside;
    }

-- ---- the values of a record's fields

field-value : (mark : List ℕ) (k : Kind) (kind : DataType) (text : List ℕ) → k ≡ Flat kind → field_in mark k text ≡ read_field mark kind text
field-value mark k kind text is = subst (λ (x : Kind). field_in mark x text ≡ read_field mark kind text) (sym is) refl

-- the values from a column on, by the first of them
values-at : (mark : List ℕ) (number : ℕ) (columns : List Column) (fields : Record) (j : ℕ) (c : Column) (kind : DataType) (answer : Option Value)
    → j < length columns → j < length fields
    → (get_or columns j c).kind ≡ Flat kind → read_field mark kind (get_or fields j []) ≡ answer
    → values_from mark number (1 + j) (drop j columns) (drop j fields)
    ≡ values_step number (1 + j) answer (values_from mark number (1 + (j + 1)) (drop (j + 1) columns) (drop (j + 1) fields))
values-at mark number columns fields j c kind answer within there flat reads =
    let here : field_in mark (get_or columns j c).kind (get_or fields j []) ≡ answer =
    field-value mark (get_or columns j c).kind kind (get_or fields j []) flat ∙ reads in
    let next : 1 + j + 1 ≡ 1 + (j + 1) = omega arith in
    rw (rest-cons columns j c within, rest-cons fields j [] there, here, next) refl

with-none : (spelled : Result Row RowFault) → with_values [] spelled ≡ spelled
with-none (Ok values) = refl
with-none (Err fault) = refl

with-more : (values : Row) (value : Value) (rest : Result Row RowFault) → with_values values (with_value value rest) ≡ with_values (values ++ value ∷ []) rest
with-more values value (Ok others) = ap (λ (vs : Row). Ok vs) (sym (append_assoc values (value ∷ []) others))
with-more values value (Err fault) = refl

-- the first field that spells no value is the fault
pub field-refused : (mark : List ℕ) (forms : List FieldForm) (old new : List Builder) (columns : List Column) (rows : List Row) (fields : Record) (number j : ℕ)
    (f : FieldForm) (b : Builder)
    → HoldRows forms old columns rows → HasFields mark forms new columns rows fields number j → j < length forms → j < length fields
    → SpellsNone mark (get_or forms j f) (get_or fields j [])
    → values_from mark number 1 columns fields ≡ Err (row.Field number (j + 1))
field-refused mark forms old new columns rows fields number j f b held so_far within there none =
    let inside : j < length columns = omega (arith, within, held.forms_count) in
    let column = held.each j f b no_column inside in
    let place : 1 + j ≡ j + 1 = omega arith in
    so_far.spelled
    ∙ ap (with_values so_far.values)
    (values-at mark number columns fields j no_column column.kind None inside there column.flat (none column.kind column.in_form))
    ∙ ap (λ (n : ℕ). Err (row.Field number n)) place

-- ---- fields that were added
-- no field is added yet
pub no-fields : (mark : List ℕ) (forms : List FieldForm) (builders : List Builder) (fields : Record) (number : ℕ)
    → AddsFields mark forms fields number 0 builders builders
no-fields mark forms builders fields number columns rows held = record {
  values = [];
  long = refl;
  spelled = sym (with-none (values_from mark number 1 columns fields));
  each = λ j f b c below. absurd (omega arith);
  short = λ j below. absurd (omega arith);
}

-- one more field is added
module _ (mark : List ℕ) (forms : List FieldForm) (old before : List Builder) (columns : List Column) (rows : List Row) (fields : Record) (number j : ℕ)
    (f : FieldForm) (b new : Builder)
    (held : HoldRows forms old columns rows) (so_far : HasFields mark forms before columns rows fields number j)
    (within : j < length forms) (there : j < length fields) (count : length before ≡ length old) (same : get_or before j b ≡ get_or old j b)
    (adds : AddsField mark (get_or forms j f) (get_or fields j []) (get_or before j b) new) where
  inside : j < length columns
  inside = omega (arith, within, held.forms_count)

  placed : j < length before
  placed = omega (arith, inside, count, held.builders_count)

  column : IsColumnOf (get_or forms j f) (get_or old j b) (get_or columns j no_column) (column_values j rows)
  column = held.each j f b no_column inside

  added : HasField mark column.kind (column_values j rows) (get_or fields j []) new
  added = adds column.kind (column_values j rows) column.in_form (subst (λ (x : Builder). Holds x column.kind (column_values j rows)) (sym same) column.holds)

  abbrev values : Row
  values = so_far.values ++ added.value ∷ []

  before-it : (k : ℕ) (f2 : FieldForm) (b2 : Builder) (c2 : Column) → k < j
      → IsColumnOf (get_or forms k f2) (get_or (set before j new) k b2) (get_or columns k c2) (column_values k rows ++ get_or values k Null ∷ [])
  before-it k f2 b2 c2 below =
      let builder : get_or (set before j new) k b2 ≡ get_or before k b2 = get_or-set_other before j k new b2 (omega (arith, below)) in
      let value : get_or values k Null ≡ get_or so_far.values k Null =
      get_or_append_left so_far.values (added.value ∷ []) Null k (omega (arith, below, so_far.long)) in
      rw (builder, value) (so_far.each k f2 b2 c2 below)

  at-it : get_or values j Null ≡ added.value
  at-it = subst (λ (n : ℕ). get_or values n Null ≡ added.value) so_far.long (get_or-append_seam so_far.values added.value [] Null)

  it : (f2 : FieldForm) (b2 : Builder) (c2 : Column)
      → IsColumnOf (get_or forms j f2) (get_or (set before j new) j b2) (get_or columns j c2) (column_values j rows ++ get_or values j Null ∷ [])
  it f2 b2 c2 =
      rw (get_or-set_same before j new b2 placed, at-it, any-default forms j f2 f within, any-default columns j c2 no_column inside)
      (record { kind = column.kind; flat = column.flat; in_form = column.in_form; proper = column.proper; holds = added.holds })

  pub field-more : HasFields mark forms (set before j new) columns rows fields number (j + 1)
  field-more = record {
    values = values;
    long = omega (arith, so_far.long, length-append so_far.values (added.value ∷ []));
    spelled = so_far.spelled
        ∙ ap (with_values so_far.values) (values-at mark number columns fields j no_column column.kind (Some added.value) inside there column.flat added.reads)
        ∙ with-more so_far.values added.value (values_from mark number (1 + (j + 1)) (drop (j + 1) columns) (drop (j + 1) fields));
    each = λ k f2 b2 c2 below.
        elim (cases_eq k j) [
          | inl here ↦
              subst (λ (n : ℕ). IsColumnOf (get_or forms n f2) (get_or (set before j new) n b2) (get_or columns n c2)
              (column_values n rows ++ get_or values n Null ∷ [])) (sym here)
              (it f2 b2 c2)
          | inr other ↦ before-it k f2 b2 c2 (omega (arith, below, other))
        ];
    short = λ k below.
        elim (cases_eq k j) [
          | inl here ↦ subst (λ (n : ℕ). length (bytes_of (get_or values n Null)) ≤ length (get_or fields n [])) (sym here) (rw at-it added.short)
          | inr other ↦
              let value : get_or values k Null ≡ get_or so_far.values k Null =
              get_or_append_left so_far.values (added.value ∷ []) Null k (omega (arith, below, other, so_far.long)) in
              rw value (so_far.short k (omega (arith, below, other)))
        ];
  }

-- ---- one row

-- a record with a field a column spells what its fields spell
row-fields : (mark : List ℕ) (number : ℕ) (columns : List Column) (fields : Record) → length fields ≡ length columns
    → row_of mark number columns fields ≡ values_from mark number 1 columns fields
row-fields mark number columns fields same =
    let equal : (length fields == length columns) ≡ true = grind (arith, nat_tests, same) in
    rw equal refl

-- and is refused where they are
pub fields-refused : (old : BodyColumns) (fields : Record) (number : ℕ) (fault : BodyFault) → length fields ≡ length old.forms.items
    → RefusesFields fault old.mark old.forms.items fields number old.builders.items
    → RefusesRow fault number fields old
fields-refused old fields number fault width refuses columns rows has =
    subst (IsRowFault fault) (sym (row-fields old.mark number columns fields (omega (arith, width, has.held.forms_count)))) (refuses columns rows has.held)

values-push : (j : ℕ) (rows : List Row) (values : Row) → column_values j (rows ++ values ∷ []) ≡ column_values j rows ++ get_or values j Null ∷ []
values-push j rows values = map-append _ rows (values ∷ [])

-- where no columns are left, the values are all
all-spelled : (mark : List ℕ) (values : Row) (number column : ℕ) (columns : List Column) (fields : Record) → columns ≡ []
    → with_values values (values_from mark number column columns fields) ≡ Ok values
all-spelled mark values number column [] fields none = ap (λ (vs : Row). Ok vs) (append-nil values)
all-spelled mark values number column (c ∷ cs) fields none = absurd cc

-- all fields are added
pub row-added : (old new : BodyColumns) (fields : Record) (number : ℕ) → length fields ≡ length old.forms.items → new.forms.items ≡ old.forms.items
    → length new.builders.items ≡ length old.builders.items → new.rows ≡ old.rows + 1
    → new.mark ≡ old.mark → AddsFields old.mark old.forms.items fields number (length old.forms.items) old.builders.items new.builders.items
    → AddsRow number fields old new
row-added old new fields number width forms count height marked adds columns rows has =
    let added = adds columns rows has.held in
    let wide : length old.forms.items ≡ length columns = has.held.forms_count in
    let no_columns : drop (length old.forms.items) columns ≡ [] = drop_all (length old.forms.items) columns (omega (arith, wide)) in
    let all =
    all-spelled old.mark added.values number (1 + length old.forms.items) (drop (length old.forms.items) columns)
    (drop (length old.forms.items) fields) no_columns in
    record {
      values = added.values;
      marked = marked;
      spelled = row-fields old.mark number columns fields (omega (arith, width, wide)) ∙ added.spelled ∙ all;
      short = λ j within. added.short j (omega (arith, within, wide));
      holds = record {
        held = record {
          forms_count = ap length forms ∙ wide;
          builders_count = count ∙ has.held.builders_count;
          each = λ j f b c within. rw (values-push j rows added.values, forms) (added.each j f b c (omega (arith, within, wide)));
        };
        height = omega (arith, height, has.height, length-append rows (added.values ∷ []));
      };
    }
