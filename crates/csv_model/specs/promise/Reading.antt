-- Reading CSV: the records of a text, and the rows that they spell under columns. The mark is the text that stands for a
-- null, by default the empty one.
use Rattle.std.specs.Prelude.{ℕ, ◌+◌, ◌==◌, List, [], ◌∷◌, length, Option, None, Some, Result, Ok, Err, if◌then◌else◌}
use Rattle.csv.specs.Reading.{default_config, records, strip_bom}
use Rattle.data_types.specs.promise.FieldText.{read_field}
use Rattle.data_types.specs.promise.Table.{Column, Kind, Flat, Row}
use Rattle.data_types.specs.promise.Value.{Value}
use Rattle.data_types.specs.declared.row_fault.RowFault.{RowFault}
use Rattle.data_types.specs.declared.row_fault.RowFault.TheVariants as row

-- a record is its fields, each the bytes of its text
abbrev pub Record : Type 0
Record = List (List ℕ)

-- the records of a text: one byte order mark is removed, and the rest is read by `csv`'s default settings; the first
-- record is the header
abbrev pub records_of : List ℕ → List Record
records_of bytes = records default_config (strip_bom bytes)

-- the records behind the header
abbrev pub behind_header : List Record → List Record
behind_header [] = []
behind_header (header ∷ records) = records

-- the value of a field in a column; only a column of plain values is read from a text
abbrev pub field_in : List ℕ → Kind → List ℕ → Option Value
field_in mark (Flat type) text = read_field mark type text
field_in mark _ text = None

abbrev pub with_value : Value → Result Row RowFault → Result Row RowFault
with_value value (Ok values) = Ok (value ∷ values)
with_value value (Err fault) = Err fault

-- the value of a field before those of the fields behind it
abbrev pub values_step : ℕ → ℕ → Option Value → Result Row RowFault → Result Row RowFault
values_step number column None rest = Err (row.Field number column)
values_step number column (Some value) rest = with_value value rest

-- the values of the fields from a column on, left to right, or the fault of the first field that is no value of its
-- column; rows and columns are numbered from 1
abbrev pub values_from : List ℕ → ℕ → ℕ → List Column → Record → Result Row RowFault
values_from mark number column (c ∷ cs) (text ∷ texts) = values_step number column (field_in mark c.kind text) (values_from mark number (column + 1) cs texts)
values_from mark number column _ _ = Ok []

-- the row that a record spells: it has as many fields as there are columns, and each field is a value of its column
abbrev pub row_of : List ℕ → ℕ → List Column → Record → Result Row RowFault
row_of mark number columns fields =
    if length fields == length columns then values_from mark number 1 columns fields else Err (row.Ragged number (length fields))

abbrev pub with_row : Result Row RowFault → Result (List Row) RowFault → Result (List Row) RowFault
with_row (Ok values) (Ok rows) = Ok (values ∷ rows)
with_row (Ok values) (Err fault) = Err fault
with_row (Err fault) rest = Err fault

-- the rows that records spell, the first of which has this number, or the fault of the first record that spells none
abbrev pub body_from : List ℕ → ℕ → List Column → List Record → Result (List Row) RowFault
body_from mark number columns [] = Ok []
body_from mark number columns (fields ∷ records) = with_row (row_of mark number columns fields) (body_from mark (number + 1) columns records)

-- the rows of the records after the header
abbrev pub body : List ℕ → List Column → List Record → Result (List Row) RowFault
body mark columns records = body_from mark 1 columns records
