-- What contracts see of the text of a table in the making.
use Rattle.std.specs.Prelude.{◌≡◌, ℕ, List, Some}
use Rattle.std.specs.List.{AllZip}
use Rattle.data_types.specs.promise.FieldText.{form_of}
use Rattle.data_types.specs.promise.Table.{Column, Row, Kind, Flat, Dict, Columns}
use Rattle.layout_rules.specs.promise.Values.{each, row_items}
use Rattle.arr_import.specs.Window.{Window}
use Rattle.field_codec.specs.FieldForms.{IsProper, form_in}
use Rattle.csv_write.specs.Lines.{HasLines}
use Rattle.csv_write.specs.declared.csv_text.CsvText.{CsvText}
use Rattle.field_codec.specs.declared.form.FieldForm.{FieldForm}

-- the rows of a window of a struct: of each of its items, the item of each child ("Arrow Columnar Format", "Struct Layout")
abbrev pub rows_in : Window → List Row
rows_in w = each (row_items w.typed w.array) w.start w.count

-- how the values of a kind are written: a dictionary's as they are without it
abbrev pub IsFormOf : FieldForm → Kind → Type 0
IsFormOf form (Flat kind) = (form_of kind ≡ Some (form_in form)) × IsProper form
IsFormOf form (Dict kind) = (form_of kind ≡ Some (form_in form)) × IsProper form
IsFormOf form (Columns _) = ⊥

abbrev pub AreFormsOf : List FieldForm → List Column → Type 0
AreFormsOf forms columns = AllZip (λ form column. IsFormOf form column.kind) forms columns

-- the text is one of these columns under a mark for null, and so much of it is written
pub record HasText (text : CsvText) (mark : List ℕ) (columns : List Column) (written : List ℕ) : Type 0 where
  pub lines : HasLines text.writer.value written
  pub forms : AreFormsOf text.forms.items columns
  pub marked : text.mark ≡ mark
