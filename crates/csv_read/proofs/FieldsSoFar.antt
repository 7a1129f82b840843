-- The fields of a record that were added so far, each to its column.
use Rattle.std.proofs.Common.{◌≡◌, ◌≤◌, ◌<◌, ◌+◌, ◌∙◌, ℕ, true, List, [], length, get_or, set, Err, arith, refl, subst, sym, inl, inr}
use Rattle.std.specs.List.{list_all}
use Rattle.std.proofs.lemmas.Bool.{cases_Bool, false≢true}
use Rattle.std.proofs.lemmas.List.{get_or-set_other, length-set}
use Rattle.std.proofs.lemmas.List.Folds.{list_all_at}
use Rattle.col_build.specs.declared.builder.Builder.{Builder}
use Rattle.csv_model.specs.promise.Reading.{Record, values_from}
use Rattle.data_types.specs.promise.Table.{Column, Row}
use Rattle.data_types.specs.declared.row_fault.RowFault.TheVariants as row
use Rattle.csv_read.specs.BodyRows.{AddsField, AddsFields, HasFields, HasRoom, HasRoomFor, HoldRows, SpellsNone}
use Rattle.csv_read.specs.ColumnForms.{is_text_form}
use Rattle.field_codec.specs.declared.form.FieldForm.{FieldForm}
use Rattle.field_codec.specs.declared.form.FieldForm.TheVariants as field_form
use Rattle.csv_read.proofs.BodyRows.{field-more, field-refused, field-room, no-fields}

-- the first columns, this many, hold the values of their fields, and the others are as they were
pub record FieldsSoFar (mark : List ℕ) (forms : List FieldForm) (fields : Record) (number j : ℕ) (old now : List Builder) : Type 0 where
  pub count : length now ≡ length old
  pub others : (k : ℕ) (b : Builder) → j ≤ k → get_or now k b ≡ get_or old k b
  pub so_far : AddsFields mark forms fields number j old now

is-text : (form : FieldForm) → is_text_form form ≡ true → form ≡ field_form.Text
is-text field_form.Text e = refl
is-text field_form.Truths e = absurd cc
is-text (field_form.Wholes bits signed) e = absurd cc
is-text (field_form.FloatBits bits) e = absurd cc
is-text field_form.HexBytes e = absurd cc
is-text (field_form.SizedHex size) e = absurd cc
is-text (field_form.Decimals precision places) e = absurd cc

-- a form among those of texts alone
pub text-form : (forms : List FieldForm) (j : ℕ) (f : FieldForm) → list_all is_text_form forms ≡ true → j < length forms → get_or forms j f ≡ field_form.Text
text-form forms j f only within = elim (cases_Bool (is_text_form (get_or forms j f))) [
  | inl is ↦ is-text (get_or forms j f) is
  | inr other ↦ absurd (false≢true (sym (list_all_at is_text_form forms j f within other) ∙ only))
]

module _ (mark : List ℕ) (forms : List FieldForm) (fields : Record) (number : ℕ) (old : List Builder) where
  pub none-so-far : FieldsSoFar mark forms fields number 0 old old
  none-so-far = record { count = refl; others = λ k b above. refl; so_far = no-fields mark forms old fields number }

  pub room-so-far : (j : ℕ) (now : List Builder) (f : FieldForm) (b : Builder) (text : List ℕ) → HasRoomFor forms old fields
      → FieldsSoFar mark forms fields number j old now → j < length forms → text ≡ get_or fields j []
      → HasRoom (get_or forms j f) (get_or now j b) (length text)
  room-so-far j now f b text room before within is =
      let field = field-room forms old fields room j f b within in
      let same : get_or old j b ≡ get_or now j b = sym (before.others j b (omega arith)) in
      rw is (subst (λ (x : Builder). HasRoom (get_or forms j f) x (length (get_or fields j []))) same field)

  pub one-so-far : (j : ℕ) (now : List Builder) (f : FieldForm) (b new : Builder) (text : List ℕ) → FieldsSoFar mark forms fields number j old now
      → j < length forms → length fields ≡ length forms → text ≡ get_or fields j [] → AddsField mark (get_or forms j f) text (get_or now j b) new
      → FieldsSoFar mark forms fields number (j + 1) old (set now j new)
  one-so-far j now f b new text before within wide is adds =
      let own : AddsField mark (get_or forms j f) (get_or fields j []) (get_or now j b) new =
      subst (λ (t : List ℕ). AddsField mark (get_or forms j f) t (get_or now j b) new) is adds in
      record {
        count = length-set now j new ∙ before.count;
        others = λ k d above. get_or-set_other now j k new d (omega (arith, above)) ∙ before.others k d (omega (arith, above));
        so_far = λ columns rows held.
            field-more mark forms old now columns rows fields number j f b new held (before.so_far columns rows held) within
            (omega (arith, wide, within)) before.count (before.others j b (omega arith)) own;
      }

  pub refused-so-far : (j : ℕ) (now : List Builder) (f : FieldForm) (text : List ℕ) (b : Builder) → FieldsSoFar mark forms fields number j old now
      → j < length forms → length fields ≡ length forms → text ≡ get_or fields j [] → SpellsNone mark (get_or forms j f) text
      → (columns : List Column) (rows : List Row) → HoldRows forms old columns rows → values_from mark number 1 columns fields ≡ Err (row.Field number (j + 1))
  refused-so-far j now f text b before within wide is none columns rows held =
      field-refused mark forms old now columns rows fields number j f b held (before.so_far columns rows held) within (omega (arith, wide, within))
      (subst (SpellsNone mark (get_or forms j f)) is none)

  pub all-so-far : (j : ℕ) (now : List Builder) → FieldsSoFar mark forms fields number j old now → j ≡ length forms
      → AddsFields mark forms fields number (length forms) old now
  all-so-far j now before end columns rows held = subst (HasFields mark forms now columns rows fields number) end (before.so_far columns rows held)
