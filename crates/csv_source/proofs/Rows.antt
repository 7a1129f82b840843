-- What the rows of records are: values of their columns, of no more bytes than the records have.
use Rattle.std.proofs.Common.{◌≡◌, ◌≤◌, ◌<◌, ◌+◌, ◌^◌, ◌∙◌, ℕ, zero, suc, List, [], ◌∷◌, length, get_or, All, Option, None, Some}
use Rattle.std.proofs.Common.{Result, Ok, Err, refl, sym, ap, subst, arith, inl, inr, length-append}
use Rattle.std.proofs.lemmas.Bool.{cases_Bool, eqb-true}
use Rattle.std.specs.Prelude.{◌==◌}
use Rattle.std.specs.List.{AllByRecursion, concat}
use Rattle.data_types.specs.promise.FieldText.{Form, form_of, read_field}
use Rattle.data_types.specs.FieldText.{IsFlatForm, IsSomeFlat, IsValueOf}
use Rattle.data_types.specs.promise.Table.{Column, Kind, Flat, Row}
use Rattle.data_types.specs.promise.Value.{Value, Null, bytes_of}
use Rattle.data_types.specs.declared.row_fault.RowFault.{RowFault}
use Rattle.data_types.specs.declared.row_fault.RowFault.TheVariants as row
use Rattle.data_types.proofs.FieldValues.{read_is_value}
use Rattle.csv_model.specs.promise.Batches.{row_before, rows_before}
use Rattle.csv_model.specs.promise.Reading.{Record, body_from, field_in, row_of, values_from, values_step, with_row, with_value}
use Rattle.csv_read.specs.RecordReader.{field_bytes}
use Rattle.csv_read.proofs.Taken.{field-taken}
use Rattle.csv_source.proofs.PlainKinds.{IsPlain}

-- a value of a column of plain values
abbrev pub IsItem : Kind → Value → Type 0
IsItem (Flat kind) value = IsValueOf kind value
IsItem _ value = ⊥

-- a row of these columns, whose values have no more bytes than the fields of a record
pub record IsRowOf (columns : List Column) (fields : Record) (values : Row) : Type 0 where
  pub width : length values ≡ length columns
  pub each : (k : ℕ) (d : Column) → k < length columns → IsItem (get_or columns k d).kind (get_or values k Null)
  pub short : (k : ℕ) → length (bytes_of (get_or values k Null)) ≤ length (get_or fields k [])

-- ---- one field

some-flat : (form : Option Form) → IsSomeFlat form → (own : Form) × (form ≡ Some own) × IsFlatForm own
some-flat None flat = absurd flat
some-flat (Some own) flat = (own, refl, flat)

record Reads (kind : Kind) (text : List ℕ) (value : Value) : Type 0 where
  item : IsItem kind value
  short : length (bytes_of value) ≤ length text

field-reads : (mark : List ℕ) (column : Column) (text : List ℕ) (value : Value) → IsPlain column → length text ≤ 2 ^ 30
    → field_in mark column.kind text ≡ Some value → Reads column.kind text value
field-reads mark column text value plain few is =
    let read : read_field mark plain.kind text ≡ Some value = subst (λ (k : Kind). field_in mark k text ≡ Some value) plain.is is in
    let form = some-flat (form_of plain.kind) plain.flat in
    let taken = field-taken mark plain.kind form.0 [] text value form.1 form.2 (omega (arith, few)) read in
    subst (λ (k : Kind). Reads k text value) (sym plain.is)
    (record { item = read_is_value plain.kind mark text value plain.flat read; short = taken.short })

-- ---- one row

ok-cons : (value : Value) (spelled : Result Row RowFault) (values : Row) → with_value value spelled ≡ Ok values
    → (rest : Row) × (spelled ≡ Ok rest) × (values ≡ value ∷ rest)
ok-cons value (Ok rest) values is =
    let same : ◌≡◌ {A = Result Row RowFault} (Ok (value ∷ rest)) (Ok values) = is in (rest, refl, (let one : values ≡ value ∷ rest = cc in one))
ok-cons value (Err fault) values is = let never : ◌≡◌ {A = Result Row RowFault} (Err fault) (Ok values) = is in cc

ok-step : (number column : ℕ) (found : Option Value) (spelled : Result Row RowFault) (values : Row) → values_step number column found spelled ≡ Ok values
    → (value : Value) × (rest : Row) × (found ≡ Some value) × (spelled ≡ Ok rest) × (values ≡ value ∷ rest)
ok-step number column None spelled values is = let never : ◌≡◌ {A = Result Row RowFault} (Err (row.Field number column)) (Ok values) = is in cc
ok-step number column (Some value) spelled values is = let parts = ok-cons value spelled values is in (value, parts.0, refl, parts.1, parts.2)

plain-rest : (c : Column) (cs : List Column) → All IsPlain (c ∷ cs) → All IsPlain cs
plain-rest c cs plain k d small = plain (suc k) d (omega (arith, small))

no-values : (fields : Record) → IsRowOf [] fields []
no-values fields = record { width = refl; each = λ k d small. absurd (omega (arith, small)); short = λ k. omega arith }

more-each : (c : Column) (cs : List Column) (value : Value) (rest : Row) → IsItem c.kind value
    → ((k : ℕ) (d : Column) → k < length cs → IsItem (get_or cs k d).kind (get_or rest k Null))
    → (k : ℕ) (d : Column) → k < length (c ∷ cs) → IsItem (get_or (c ∷ cs) k d).kind (get_or (value ∷ rest) k Null)
more-each c cs value rest item each zero d small = item
more-each c cs value rest item each (suc k) d small = each k d (omega (arith, small))

more-short : (text : List ℕ) (texts : Record) (value : Value) (rest : Row) → length (bytes_of value) ≤ length text
    → ((k : ℕ) → length (bytes_of (get_or rest k Null)) ≤ length (get_or texts k []))
    → (k : ℕ) → length (bytes_of (get_or (value ∷ rest) k Null)) ≤ length (get_or (text ∷ texts) k [])
more-short text texts value rest first short zero = first
more-short text texts value rest first short (suc k) = short k

values-are : (mark : List ℕ) (number column : ℕ) (columns : List Column) (fields : Record) (values : Row) → All IsPlain columns
    → length (concat fields) ≤ 2 ^ 30 → length fields ≡ length columns → values_from mark number column columns fields ≡ Ok values
    → IsRowOf columns fields values
values-are mark number column [] fields values plain few same is =
    let none : ◌≡◌ {A = Result Row RowFault} (Ok []) (Ok values) = is in
    let one : [] ≡ values = cc in
    subst (IsRowOf [] fields) one (no-values fields)
values-are mark number column (c ∷ cs) [] values plain few same is = absurd (omega (arith, same))
values-are mark number column (c ∷ cs) (text ∷ texts) values plain few same is =
    let step = ok-step number column (field_in mark c.kind text) (values_from mark number (column + 1) cs texts) values is in
    let long = length-append text (concat texts) in
    let first = field-reads mark c text step.0 (plain zero c (omega arith)) (omega (arith, few, long)) step.2 in
    let rest = values-are mark number (column + 1) cs texts step.1 (plain-rest c cs plain) (omega (arith, few, long)) (omega (arith, same)) step.3 in
    subst (IsRowOf (c ∷ cs) (text ∷ texts)) (sym step.4) (record {
      width = omega (arith, rest.width);
      each = more-each c cs step.0 step.1 first.item rest.each;
      short = more-short text texts step.0 step.1 first.short rest.short;
    })

row-is : (mark : List ℕ) (number : ℕ) (columns : List Column) (fields : Record) (values : Row) → All IsPlain columns → length (concat fields) ≤ 2 ^ 30
    → row_of mark number columns fields ≡ Ok values → IsRowOf columns fields values
row-is mark number columns fields values plain few is = elim (cases_Bool (length fields == length columns)) [
  | inl same ↦ values-are mark number 1 columns fields values plain few (eqb-true (length fields) (length columns) same) (rw same at is)
  | inr other ↦ let never : ◌≡◌ {A = Result Row RowFault} (Err (row.Ragged number (length fields))) (Ok values) = rw other at is in cc
]

-- ---- the rows of records

-- a row of these columns
pub record IsRow (columns : List Column) (values : Row) : Type 0 where
  pub width : length values ≡ length columns
  pub each : (k : ℕ) (d : Column) → k < length columns → IsItem (get_or columns k d).kind (get_or values k Null)

-- the bytes of a column of rows
abbrev pub column_bytes : ℕ → List Row → ℕ
column_bytes k [] = 0
column_bytes k (values ∷ rows) = length (bytes_of (get_or values k Null)) + column_bytes k rows

-- rows of these columns, this many at most, and this many bytes a column
pub record AreRows (columns : List Column) (rows : List Row) (count bytes : ℕ) : Type 0 where
  pub each : AllByRecursion (IsRow columns) rows
  pub few : length rows ≤ count
  pub short : (k : ℕ) → column_bytes k rows ≤ bytes

field-short : (fields : Record) (j : ℕ) → length (get_or fields j []) ≤ length (concat fields)
field-short [] zero = omega arith
field-short [] (suc j) = omega arith
field-short (f ∷ fields) zero = omega (arith, length-append f (concat fields))
field-short (f ∷ fields) (suc j) = omega (arith, field-short fields j, length-append f (concat fields))

row-more : (columns : List Column) (first : Result Row RowFault) (fields : Record) (rows : List Row) (count bytes : ℕ)
    → ((values : Row) → first ≡ Ok values → IsRowOf columns fields values) → AreRows columns rows count bytes
    → AreRows columns (row_before first rows) (suc count) (length (concat fields) + bytes)
row-more columns (Err fault) fields rows count bytes is rest = record { each = tt; few = omega arith; short = λ k. omega arith }
row-more columns (Ok values) fields rows count bytes is rest =
    let here = is values refl in
    record {
      each = (record { width = here.width; each = here.each }, rest.each);
      few = omega (arith, rest.few);
      short = λ k. omega (arith, here.short k, field-short fields k, rest.short k);
    }

pub rows-are : (mark : List ℕ) (number : ℕ) (columns : List Column) (records : List Record) → All IsPlain columns → field_bytes records ≤ 2 ^ 30
    → AreRows columns (rows_before mark number columns records) (length records) (field_bytes records)
rows-are mark number columns [] plain few = record { each = tt; few = omega arith; short = λ k. omega arith }
rows-are mark number columns (fields ∷ records) plain few =
    row-more columns (row_of mark number columns fields) fields (rows_before mark (number + 1) columns records) (length records) (field_bytes records)
    (λ values is. row-is mark number columns fields values plain (omega (arith, few)) is)
    (rows-are mark (number + 1) columns records plain (omega (arith, few)))

-- where each record spells a row, these are all

both-ok : (first : Result Row RowFault) (spelled : Result (List Row) RowFault) (before rows : List Row)
    → ((rest : List Row) → spelled ≡ Ok rest → before ≡ rest) → with_row first spelled ≡ Ok rows → row_before first before ≡ rows
both-ok (Ok values) (Ok rest) before rows same is =
    let e : ◌≡◌ {A = Result (List Row) RowFault} (Ok (values ∷ rest)) (Ok rows) = is in
    let one : values ∷ rest ≡ rows = cc in
    ap (λ (rs : List Row). values ∷ rs) (same rest refl) ∙ one
both-ok (Ok values) (Err fault) before rows same is = let never : ◌≡◌ {A = Result (List Row) RowFault} (Err fault) (Ok rows) = is in cc
both-ok (Err fault) spelled before rows same is = let never : ◌≡◌ {A = Result (List Row) RowFault} (Err fault) (Ok rows) = is in cc

pub all-before : (mark : List ℕ) (number : ℕ) (columns : List Column) (records : List Record) (rows : List Row)
    → body_from mark number columns records ≡ Ok rows → rows_before mark number columns records ≡ rows
all-before mark number columns [] rows is = let e : ◌≡◌ {A = Result (List Row) RowFault} (Ok []) (Ok rows) = is in let one : [] ≡ rows = cc in one
all-before mark number columns (fields ∷ records) rows is =
    both-ok (row_of mark number columns fields) (body_from mark (number + 1) columns records) (rows_before mark (number + 1) columns records) rows
    (λ rest e. all-before mark (number + 1) columns records rest e) is
