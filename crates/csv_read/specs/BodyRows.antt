-- The columns of a body in the making, and one more row for them, under a mark for null.
use Rattle.std.specs.Prelude.{◌≡◌, ◌≤◌, ◌<◌, ◌+◌, ◌^◌, ◌++◌, ℕ, List, [], ◌∷◌, length, get_or, take, drop, Option, None, Some, Result, Ok, Err}
use Rattle.col_build.specs.promise.Encoding.{narrow_limit}
use Rattle.col_build.specs.Encoding.{most_values}
use Rattle.col_build.specs.Holding.{Adds, Holds}
pub use Rattle.col_build.specs.Holding.{Takes}
use Rattle.col_build.specs.declared.builder.Builder.{Builder}
use Rattle.data_types.specs.declared.kind.DataType.{DataType}
use Rattle.data_types.specs.promise.FieldText.{form_of, read_field}
use Rattle.data_types.specs.promise.Table.{Column, Flat, Row}
use Rattle.data_types.specs.promise.Value.{Value, Null, byte_total, bytes_of}
use Rattle.csv_model.specs.promise.Reading.{Record, body_from, row_of, values_from}
use Rattle.data_types.specs.declared.row_fault.RowFault.{RowFault}
use Rattle.csv_read.specs.Body.{column_values}
use Rattle.field_codec.specs.FieldForms.{IsProper, form_in}
use Rattle.csv_read.specs.RecordReader.{RecordsLeft}
use Rattle.csv_read.specs.declared.body.BodyFault.{BodyFault}
use Rattle.csv_read.specs.declared.body.BodyFault.TheVariants as faults
use Rattle.csv_read.specs.declared.body_columns.BodyColumns.{BodyColumns}
use Rattle.field_codec.specs.declared.form.FieldForm.{FieldForm}

-- ---- one field

-- the column is of this form
abbrev pub IsOfForm : FieldForm → Builder → Type 0
IsOfForm form builder = (kind : DataType) (values : List Value) → Holds builder kind values → form_of kind ≡ Some (form_in form)

-- the column takes the value if there is one
abbrev pub TakesSome : Builder → Option Value → Type 0
TakesSome builder found = (value : Value) → found ≡ Some value → Takes builder value

-- there is a value, which the column holds besides
abbrev pub AddsSome : Option Value → Builder → Builder → Type 0
AddsSome found old new = (value : Value) × (found ≡ Some value) × Adds value old new

-- the column of this form has room for a field of this many bytes
pub record HasRoom (form : FieldForm) (builder : Builder) (size : ℕ) : Type 0 where
  pub kind : DataType
  pub values : List Value
  pub in_form : form_of kind ≡ Some (form_in form)
  pub holds : Holds builder kind values
  pub few : length values < most_values
  pub bytes : byte_total values + size < narrow_limit

-- the field spells a value of no more bytes than it has, which the column holds besides
pub record HasField (mark : List ℕ) (kind : DataType) (values : List Value) (text : List ℕ) (builder : Builder) : Type 0 where
  pub value : Value
  pub reads : read_field mark kind text ≡ Some value
  pub short : length (bytes_of value) ≤ length text
  pub holds : Holds builder kind (values ++ value ∷ [])

abbrev pub AddsField : List ℕ → FieldForm → List ℕ → Builder → Builder → Type 0
AddsField mark form text old new =
    (kind : DataType) (values : List Value) → form_of kind ≡ Some (form_in form) → Holds old kind values → HasField mark kind values text new

abbrev pub SpellsNone : List ℕ → FieldForm → List ℕ → Type 0
SpellsNone mark form text = (kind : DataType) → form_of kind ≡ Some (form_in form) → read_field mark kind text ≡ None

-- ---- one row

-- the form and the builder are those of a column, which holds these values
pub record IsColumnOf (form : FieldForm) (builder : Builder) (column : Column) (values : List Value) : Type 0 where
  pub kind : DataType
  pub flat : column.kind ≡ Flat kind
  pub in_form : form_of kind ≡ Some (form_in form)
  pub proper : IsProper form
  pub holds : Holds builder kind values

-- a form and a builder a column, which hold these rows
pub record HoldRows (forms : List FieldForm) (builders : List Builder) (columns : List Column) (rows : List Row) : Type 0 where
  pub forms_count : length forms ≡ length columns
  pub builders_count : length builders ≡ length columns
  pub each : (j : ℕ) (f : FieldForm) (b : Builder) (c : Column) → j < length columns
      → IsColumnOf (get_or forms j f) (get_or builders j b) (get_or columns j c) (column_values j rows)

-- there is room for the fields of a record
pub record HasRoomFor (forms : List FieldForm) (builders : List Builder) (fields : Record) : Type 0 where
  pub columns : List Column
  pub rows : List Row
  pub held : HoldRows forms builders columns rows
  pub few : length rows < most_values
  pub narrow : length fields < 2 ^ 32
  pub bytes : (j : ℕ) → j < length columns → byte_total (column_values j rows) + length (get_or fields j []) < narrow_limit

abbrev pub with_values : Row → Result Row RowFault → Result Row RowFault
with_values values (Ok others) = Ok (values ++ others)
with_values values (Err fault) = Err fault

-- the first fields of a record spell values, which their columns hold besides, and the others are yet to be read
pub record HasFields (mark : List ℕ) (forms : List FieldForm) (builders : List Builder) (columns : List Column) (rows : List Row) (fields : Record)
    (number count : ℕ) : Type 0 where
  pub values : Row
  pub long : length values ≡ count
  pub spelled : values_from mark number 1 columns fields ≡ with_values values (values_from mark number (1 + count) (drop count columns) (drop count fields))
  pub each : (j : ℕ) (f : FieldForm) (b : Builder) (c : Column) → j < count
      → IsColumnOf (get_or forms j f) (get_or builders j b) (get_or columns j c) (column_values j rows ++ get_or values j Null ∷ [])
  pub short : (j : ℕ) → j < count → length (bytes_of (get_or values j Null)) ≤ length (get_or fields j [])

-- this many fields of a record are added
abbrev pub AddsFields : List ℕ → List FieldForm → Record → ℕ → ℕ → List Builder → List Builder → Type 0
AddsFields mark forms fields number count old new =
    (columns : List Column) (rows : List Row) → HoldRows forms old columns rows → HasFields mark forms new columns rows fields number count

-- the fault is why a row isn't spelled; out of memory says nothing of it
abbrev pub IsRowFault : BodyFault → Result Row RowFault → Type 0
IsRowFault (faults.Row fault) spelled = spelled ≡ Err fault
IsRowFault faults.NoMemory spelled = Unit {0}

abbrev pub RefusesFields : BodyFault → List ℕ → List FieldForm → Record → ℕ → List Builder → Type 0
RefusesFields fault mark forms fields number old =
    (columns : List Column) (rows : List Row) → HoldRows forms old columns rows → IsRowFault fault (values_from mark number 1 columns fields)

-- ---- rows

-- the columns hold these rows
pub record HasRows (made : BodyColumns) (columns : List Column) (rows : List Row) : Type 0 where
  pub held : HoldRows made.forms.items made.builders.items columns rows
  pub height : made.rows ≡ length rows

-- the fields of the record of this number spell the values of a row, which the columns hold besides, and the mark stays
pub record HasRow (mark : List ℕ) (number : ℕ) (columns : List Column) (rows : List Row) (fields : Record) (made : BodyColumns) : Type 0 where
  pub values : Row
  pub marked : made.mark ≡ mark
  pub spelled : row_of mark number columns fields ≡ Ok values
  pub short : (j : ℕ) → j < length columns → length (bytes_of (get_or values j Null)) ≤ length (get_or fields j [])
  pub holds : HasRows made columns (rows ++ values ∷ [])

abbrev pub AddsRow : ℕ → Record → BodyColumns → BodyColumns → Type 0
AddsRow number fields old new = (columns : List Column) (rows : List Row) → HasRows old columns rows → HasRow old.mark number columns rows fields new

abbrev pub RefusesRow : BodyFault → ℕ → Record → BodyColumns → Type 0
RefusesRow fault number fields old =
    (columns : List Column) (rows : List Row) → HasRows old columns rows → IsRowFault fault (row_of old.mark number columns fields)

-- ---- the rows of the next records

-- the fault is why the rows aren't spelled; out of memory says nothing of it
abbrev pub IsRowsFault : BodyFault → Result (List Row) RowFault → Type 0
IsRowsFault (faults.Row fault) spelled = spelled ≡ Err fault
IsRowsFault faults.NoMemory spelled = Unit {0}

abbrev pub with_rows : List Row → Result (List Row) RowFault → Result (List Row) RowFault
with_rows rows (Ok others) = Ok (rows ++ others)
with_rows rows (Err fault) = Err fault

-- of the next records, this many or all that are left, the columns hold the rows of those that were read, and there is room
-- for the others; the first record has this number
pub record RowsSoFar (mark : List ℕ) (number batch : ℕ) (columns : List Column) (from : RecordsLeft) (made : BodyColumns) (to : RecordsLeft) : Type 0 where
  pub rows : List Row
  -- how many rows are still to come, where there are as many records
  pub others : ℕ
  pub count : length rows + others ≡ batch
  pub holds : HasRows made columns rows
  pub marked : made.mark ≡ mark
  pub spelled : body_from mark number columns (take batch from.records)
      ≡ with_rows rows (body_from mark (number + length rows) columns (take others to.records))
  pub rest : drop batch from.records ≡ drop others to.records
  pub few : length rows + to.size ≤ from.size
  pub short : (j : ℕ) → j < length columns → byte_total (column_values j rows) + to.size ≤ from.size

-- the columns hold the rows of the next records, this many or all that are left, and those behind them are left
pub record HasBatch (mark : List ℕ) (number batch : ℕ) (columns : List Column) (from : RecordsLeft) (made : BodyColumns) (to : RecordsLeft) : Type 0 where
  pub rows : List Row
  pub holds : HasRows made columns rows
  pub spelled : body_from mark number columns (take batch from.records) ≡ Ok rows
  pub few : length rows + to.size ≤ from.size
  pub behind : to.records ≡ drop batch from.records

abbrev pub ReadsBatch : ℕ → ℕ → RecordsLeft → BodyColumns → BodyColumns → RecordsLeft → Type 0
ReadsBatch number batch from old new to = (columns : List Column) → HasRows old columns [] → HasBatch old.mark number batch columns from new to

abbrev pub RefusesBatch : BodyFault → ℕ → ℕ → List Record → BodyColumns → Type 0
RefusesBatch fault number batch records old =
    (columns : List Column) → HasRows old columns [] → IsRowsFault fault (body_from old.mark number columns (take batch records))
