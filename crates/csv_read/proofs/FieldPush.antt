-- The value of a field for its column: one that equals the mark is null, and any other is read by the column's form.
use Rattle.std.proofs.Common.{◌≡◌, ◌∙◌, ℕ, true, false, List, [], length, Option, None, Some, refl, ap, arith}
use Rattle.std.specs.Option.{option_and_then}
use Rattle.std.specs.Str.{bytes_eq, is_utf8}
use Rattle.col_build.specs.Holding.{Adds}
use Rattle.col_build.specs.declared.builder.Builder.{Builder}
use Rattle.data_types.specs.promise.FieldText.{Form, Text, form_of, read_field, read_form}
use Rattle.data_types.specs.promise.Value.{Null, Bytes}
use Rattle.data_types.specs.declared.kind.DataType.{DataType}
use Rattle.csv_read.specs.BodyRows.{AddsField, AddsSome, HasRoom, SpellsNone, TakesSome}
use Rattle.field_codec.specs.FieldForms.{IsProper, form_in}
use Rattle.field_codec.specs.declared.form.FieldForm.{FieldForm}
use Rattle.csv_read.proofs.Taken.{field-taken}

-- ---- a text

pub text-reads : (text : List ℕ) → is_utf8 text ≡ true → read_form Text text ≡ Some (Bytes text)
text-reads text is = rw is refl

-- ---- the mark

module _ (mark : List ℕ) (form : FieldForm) (text : List ℕ) where
  pub mark-added : (old new : Builder) → bytes_eq text mark ≡ true → Adds Null old new → AddsField mark form text old new
  mark-added old new same adds kind values is holds = record { value = Null; reads = rw same refl; short = omega arith; holds = adds kind values holds }

  -- ---- any other

  read-in-kind : (kind : DataType) → bytes_eq text mark ≡ false → form_of kind ≡ Some (form_in form) → read_field mark kind text ≡ read_form (form_in form) text
  read-in-kind kind other is = rw other (ap (λ (o : Option Form). option_and_then (λ (f : Form). read_form f text) o) is)

  pub spelled-taken : (builder : Builder) → bytes_eq text mark ≡ false → IsProper form → HasRoom form builder (length text)
      → TakesSome builder (read_form (form_in form) text)
  spelled-taken builder other proper room value reads = (
    room.kind,
    room.values,
    room.holds,
    room.few,
    (field-taken mark room.kind (form_in form) room.values text value room.in_form proper room.bytes (read-in-kind room.kind other room.in_form ∙ reads)).none,
  )

  pub spelled-added : (old new : Builder) → bytes_eq text mark ≡ false → IsProper form → HasRoom form old (length text)
      → AddsSome (read_form (form_in form) text) old new
      → AddsField mark form text old new
  spelled-added old new other proper room adds kind values is holds =
      let reads : read_field mark kind text ≡ Some adds.0 = read-in-kind kind other is ∙ adds.1 in
      record {
        value = adds.0;
        reads = reads;
        short = (field-taken mark kind (form_in form) [] text adds.0 is proper (omega (arith, room.bytes)) reads).short;
        holds = adds.2 kind values holds;
      }

  pub spelled-none : bytes_eq text mark ≡ false → read_form (form_in form) text ≡ None → SpellsNone mark form text
  spelled-none other none kind is = read-in-kind kind other is ∙ none
