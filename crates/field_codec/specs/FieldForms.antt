-- What the code's form of a column is, and how a value is written in a form.
use Rattle.std.specs.Prelude.{ℕ, List, []}
use Rattle.data_types.specs.promise.FieldText.{Form, Truths, Wholes, FloatBits, Text, HexBytes, SizedHex, Decimals, written_form}
use Rattle.data_types.specs.FieldText.{IsFlatForm}
use Rattle.data_types.specs.promise.Value.{Value, Null}
use Rattle.field_codec.specs.declared.form.FieldForm.{FieldForm}
use Rattle.field_codec.specs.declared.form.FieldForm.TheVariants as forms

abbrev pub form_in : FieldForm → Form
form_in forms.Truths = Truths
form_in (forms.Wholes bits signed) = Wholes bits signed
form_in (forms.FloatBits bits) = FloatBits bits
form_in forms.Text = Text
form_in forms.HexBytes = HexBytes
form_in (forms.SizedHex size) = SizedHex size
form_in (forms.Decimals precision places) = Decimals precision places

-- a form's numbers are those of a type
abbrev pub IsProper : FieldForm → Type 0
IsProper form = IsFlatForm (form_in form)

-- what is written of a value that isn't of the form: the mark for a null, and nothing for another value
abbrev pub null_text : List ℕ → Value → List ℕ
null_text mark Null = mark
null_text mark _ = []

-- the text of a value in a form: a null is the mark
abbrev pub written_in : List ℕ → Form → Value → List ℕ
written_in mark form Null = mark
written_in mark form value = written_form form value
