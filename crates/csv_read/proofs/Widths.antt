-- Each row that records spell has a value for each column.
use Rattle.std.proofs.Common.{◌≡◌, ◌+◌, ℕ, zero, suc, List, [], ◌∷◌, length, All, Option, None, Some, Result, Ok, Err, refl, inl, inr, ap, sym, subst, arith}
use Rattle.std.proofs.lemmas.Bool.{cases_Bool, eqb-true}
use Rattle.std.specs.Prelude.{◌==◌}
use Rattle.data_types.specs.promise.Table.{Column, Row}
use Rattle.data_types.specs.promise.Value.{Value}
use Rattle.csv_model.specs.promise.Reading.{Record, body_from, field_in, row_of, values_from, values_step, with_row, with_value}
use Rattle.data_types.specs.declared.row_fault.RowFault.{RowFault}
use Rattle.data_types.specs.declared.row_fault.RowFault.TheVariants as row

ok-cons : (value : Value) (spelled : Result Row RowFault) (values : Row) → with_value value spelled ≡ Ok values
    → (rest : Row) × (spelled ≡ Ok rest) × (length values ≡ suc (length rest))
ok-cons value (Ok rest) values is =
    let same : ◌≡◌ {A = Result Row RowFault} (Ok (value ∷ rest)) (Ok values) = is in let one : value ∷ rest ≡ values = cc in (rest, refl, ap length (sym one))
ok-cons value (Err fault) values is = let never : ◌≡◌ {A = Result Row RowFault} (Err fault) (Ok values) = is in cc

ok-step : (number column : ℕ) (value : Option Value) (spelled : Result Row RowFault) (values : Row) → values_step number column value spelled ≡ Ok values
    → (rest : Row) × (spelled ≡ Ok rest) × (length values ≡ suc (length rest))
ok-step number column None spelled values is = let never : ◌≡◌ {A = Result Row RowFault} (Err (row.Field number column)) (Ok values) = is in cc
ok-step number column (Some value) spelled values is = ok-cons value spelled values is

values-width : (mark : List ℕ) (number column : ℕ) (columns : List Column) (fields : Record) (values : Row) → length fields ≡ length columns
    → values_from mark number column columns fields ≡ Ok values
    → length values ≡ length columns
values-width mark number column [] fields values same is =
    let none : ◌≡◌ {A = Result Row RowFault} (Ok []) (Ok values) = is in let one : [] ≡ values = cc in ap length (sym one)
values-width mark number column (c ∷ cs) (text ∷ texts) values same is =
    let step = ok-step number column (field_in mark c.kind text) (values_from mark number (column + 1) cs texts) values is in
    let rest = values-width mark number (column + 1) cs texts step.0 (omega (arith, same)) step.1 in
    omega (arith, step.2, rest)
values-width mark number column (c ∷ cs) [] values same is = absurd (omega (arith, same))

row-width : (mark : List ℕ) (number : ℕ) (columns : List Column) (fields : Record) (values : Row) → row_of mark number columns fields ≡ Ok values
    → length values ≡ length columns
row-width mark number columns fields values is = elim (cases_Bool (length fields == length columns)) [
  | inl same ↦ values-width mark number 1 columns fields values (eqb-true (length fields) (length columns) same) (rw same at is)
  | inr other ↦ let never : ◌≡◌ {A = Result Row RowFault} (Err (row.Ragged number (length fields))) (Ok values) = rw other at is in cc
]

pub ok-row : (first : Result Row RowFault) (spelled : Result (List Row) RowFault) (rows : List Row) → with_row first spelled ≡ Ok rows
    → (values : Row) × (rest : List Row) × (first ≡ Ok values) × (spelled ≡ Ok rest) × (rows ≡ values ∷ rest)
ok-row (Ok values) (Ok rest) rows is = let same : ◌≡◌ {A = Result (List Row) RowFault} (Ok (values ∷ rest)) (Ok rows) = is in
    (values, rest, refl, refl, (let one : rows ≡ values ∷ rest = cc in one))
ok-row (Ok values) (Err fault) rows is = let never : ◌≡◌ {A = Result (List Row) RowFault} (Err fault) (Ok rows) = is in cc
ok-row (Err fault) spelled rows is = let never : ◌≡◌ {A = Result (List Row) RowFault} (Err fault) (Ok rows) = is in cc

rows-wide : (columns : List Column) (values : Row) (rest : List Row) → length values ≡ length columns → All (λ row. length row ≡ length columns) rest
    → All (λ row. length row ≡ length columns) (values ∷ rest)
rows-wide columns values rest first others zero d small = first
rows-wide columns values rest first others (suc k) d small = others k d (omega (arith, small))

pub widths-from : (mark : List ℕ) (number : ℕ) (columns : List Column) (records : List Record) (rows : List Row)
    → body_from mark number columns records ≡ Ok rows → All (λ row. length row ≡ length columns) rows
widths-from mark number columns [] rows is =
    let none : ◌≡◌ {A = Result (List Row) RowFault} (Ok []) (Ok rows) = is in
    let one : [] ≡ rows = cc in
    subst (All (λ row. length row ≡ length columns)) one (λ k d small. absurd (omega (arith, small)))
widths-from mark number columns (fields ∷ records) rows is =
    let parts = ok-row (row_of mark number columns fields) (body_from mark (number + 1) columns records) rows is in
    subst (All (λ row. length row ≡ length columns)) (sym parts.4)
    (rows-wide columns parts.0 parts.1 (row-width mark number columns fields parts.0 parts.2) (widths-from mark (number + 1) columns records parts.1 parts.3))
