-- The batches of records are lawful tables.
use Rattle.std.proofs.Common.{◌≡◌, ◌≤◌, ◌<◌, ◌+◌, ◌++◌, ◌^◌, ◌∙◌, ℕ, Bool, List, [], ◌∷◌, length, map, get_or, All, Result, Ok, Err}
use Rattle.std.proofs.Common.{refl, sym, ap, subst, arith, inl, inr, length-append}
use Rattle.std.proofs.lemmas.Bool.{cases_Bool}
use Rattle.std.proofs.lemmas.List.Elements.{All-from_recursion}
use Rattle.std.specs.List.{AllByRecursion, concat, filter}
use Rattle.data_types.specs.FieldText.{IsValueOf}
use Rattle.data_types.specs.promise.Parts.{column_values}
use Rattle.data_types.specs.Parts.{joined_rows}
use Rattle.data_types.specs.promise.Table.{Column, Kind, Row}
use Rattle.data_types.specs.promise.Value.{Null, byte_total, bytes_of}
use Rattle.data_types.specs.declared.row_fault.RowFault.{RowFault}
use Rattle.csv_model.specs.promise.Batches.{batches_if, cut, rows_before}
use Rattle.csv_model.specs.promise.Reading.{body_from}
use Rattle.csv_read.specs.BatchesLeft.{BatchesLeft, batches_left, columns_in}
use Rattle.csv_source.specs.SourceStreams.{AreShort}
use Rattle.stage_model.proofs.BatchRows.{cut-rows}
use Rattle.stream_face.specs.Lawful.{AreItems, AreValues, IsTable, LawfulTables, total_rows}
use Rattle.csv_source.proofs.PlainKinds.{IsPlain}
use Rattle.csv_source.proofs.Rows.{AreRows, IsItem, IsRow, all-before, column_bytes, rows-are}

-- ---- one table

items-are : (columns : List Column) (rows : List Row) (k : ℕ) (d : Column) → k < length columns → AllByRecursion (IsRow columns) rows
    → AllByRecursion (IsItem (get_or columns k d).kind) (column_values k rows)
items-are columns [] k d small each = tt
items-are columns (values ∷ rows) k d small each = (each.0.each k d small, items-are columns rows k d small each.1)

items-bytes : (k : ℕ) (rows : List Row) → byte_total (column_values k rows) ≡ column_bytes k rows
items-bytes k [] = refl
items-bytes k (values ∷ rows) =
    length-append (bytes_of (get_or values k Null)) (concat (map bytes_of (column_values k rows)))
    ∙ ap (λ (n : ℕ). length (bytes_of (get_or values k Null)) + n) (items-bytes k rows)

widths-are : (columns : List Column) (rows : List Row) → AllByRecursion (IsRow columns) rows → AllByRecursion (λ row. length row ≡ length columns) rows
widths-are columns [] each = tt
widths-are columns (values ∷ rows) each = (each.0.width, widths-are columns rows each.1)

pub plain-items : (columns : List Column) (rows : List Row) (k : ℕ) (d : Column) (plain : IsPlain (get_or columns k d)) → k < length columns
    → AllByRecursion (IsRow columns) rows → AllByRecursion (IsValueOf plain.kind) (column_values k rows)
plain-items columns rows k d plain small each =
    subst (λ (kind : Kind). AllByRecursion (IsItem kind) (column_values k rows)) plain.is (items-are columns rows k d small each)

is-table : (columns : List Column) (rows : List Row) (count bytes : ℕ) → All IsPlain columns → bytes ≤ 2 ^ 30 → AreRows columns rows count bytes
    → IsTable columns rows
is-table columns rows count bytes plain few are = record {
  widths = All-from_recursion (λ (row : Row). length row ≡ length columns) rows (widths-are columns rows are.each);
  items = λ k d small.
      let here = plain k d small in
      let values : AreValues here.kind (column_values k rows) = (
        All-from_recursion (IsValueOf here.kind) (column_values k rows) (plain-items columns rows k d here small are.each),
        omega (arith, items-bytes k rows, are.short k, few),
      ) in
      subst (λ (kind : Kind). AreItems kind (column_values k rows)) (sym here.is) values;
}

-- ---- the parts of rows

each-front : (columns : List Column) (first rest : List Row) → AllByRecursion (IsRow columns) (first ++ rest) → AllByRecursion (IsRow columns) first
each-front columns [] rest each = tt
each-front columns (values ∷ first) rest each = (each.0, each-front columns first rest each.1)

each-back : (columns : List Column) (first rest : List Row) → AllByRecursion (IsRow columns) (first ++ rest) → AllByRecursion (IsRow columns) rest
each-back columns [] rest each = each
each-back columns (values ∷ first) rest each = each-back columns first rest each.1

bytes-append : (k : ℕ) (first rest : List Row) → column_bytes k (first ++ rest) ≡ column_bytes k first + column_bytes k rest
bytes-append k [] rest = omega arith
bytes-append k (values ∷ first) rest = omega (arith, bytes-append k first rest)

front-rows : (columns : List Column) (first rest : List Row) (count bytes : ℕ) → AreRows columns (first ++ rest) count bytes → AreRows columns first count bytes
front-rows columns first rest count bytes are = record {
  each = each-front columns first rest are.each;
  few = omega (arith, are.few, length-append first rest);
  short = λ k. omega (arith, are.short k, bytes-append k first rest);
}

back-rows : (columns : List Column) (first rest : List Row) (count bytes : ℕ) → AreRows columns (first ++ rest) count bytes → AreRows columns rest count bytes
back-rows columns first rest count bytes are = record {
  each = each-back columns first rest are.each;
  few = omega (arith, are.few, length-append first rest);
  short = λ k. omega (arith, are.short k, bytes-append k first rest);
}

are-tables : (columns : List Column) (parts : List (List Row)) (count bytes : ℕ) → All IsPlain columns → bytes ≤ 2 ^ 30
    → AreRows columns (joined_rows parts) count bytes → AllByRecursion (IsTable columns) parts
are-tables columns [] count bytes plain few are = tt
are-tables columns (part ∷ parts) count bytes plain few are = (
  is-table columns part count bytes plain few (front-rows columns part (joined_rows parts) count bytes are),
  are-tables columns parts count bytes plain few (back-rows columns part (joined_rows parts) count bytes are),
)

total-joined : (parts : List (List Row)) → total_rows parts ≡ length (joined_rows parts)
total-joined [] = refl
total-joined (part ∷ parts) = omega (arith, length-append part (joined_rows parts), total-joined parts)

-- some of the parts

some-tables : (columns : List Column) (test : List Row → Bool) (parts : List (List Row)) → AllByRecursion (IsTable columns) parts
    → AllByRecursion (IsTable columns) (filter test parts)
some-tables columns test [] tables = tt
some-tables columns test (part ∷ parts) tables = elim (cases_Bool (test part)) [
  | inl kept ↦ rw kept (tables.0, some-tables columns test parts tables.1)
  | inr left ↦ rw left (some-tables columns test parts tables.1)
]

some-total : (test : List Row → Bool) (parts : List (List Row)) → total_rows (filter test parts) ≤ total_rows parts
some-total test [] = omega arith
some-total test (part ∷ parts) = elim (cases_Bool (test part)) [
  | inl kept ↦ rw kept (omega (arith, some-total test parts))
  | inr left ↦ rw left (omega (arith, some-total test parts))
]

-- ---- the batches that are left

cut-tables : (columns : List Column) (batch : ℕ) (rows : List Row) (count bytes : ℕ) → All IsPlain columns → count ≤ 2 ^ 30 → bytes ≤ 2 ^ 30
    → AreRows columns rows count bytes → LawfulTables columns (cut batch batch rows)
cut-tables columns batch rows count bytes plain few short are =
    let all = cut-rows batch batch rows in
    let here : AreRows columns (joined_rows (cut batch batch rows)) count bytes = subst (λ (rs : List Row). AreRows columns rs count bytes) (sym all) are in
    record {
      tables = are-tables columns (cut batch batch rows) count bytes plain short here;
      rows = omega (arith, total-joined (cut batch batch rows), here.few, few);
    }

some-lawful : (columns : List Column) (test : List Row → Bool) (parts : List (List Row)) → LawfulTables columns parts → LawfulTables columns (filter test parts)
some-lawful columns test parts lawful = record {
  tables = some-tables columns test parts lawful.tables;
  rows = omega (arith, some-total test parts, lawful.rows);
}

if-lawful : (columns : List Column) (spelled : Result (List Row) RowFault) (batch : ℕ) (before : List Row) (count bytes : ℕ) → All IsPlain columns
    → count ≤ 2 ^ 30 → bytes ≤ 2 ^ 30 → AreRows columns before count bytes → ((rows : List Row) → spelled ≡ Ok rows → before ≡ rows)
    → LawfulTables columns (batches_if spelled batch before).chunks
if-lawful columns (Ok rows) batch before count bytes plain few short are same =
    cut-tables columns batch rows count bytes plain few short (subst (λ (rs : List Row). AreRows columns rs count bytes) (same rows refl) are)
if-lawful columns (Err fault) batch before count bytes plain few short are same =
    some-lawful columns _ (cut batch batch before) (cut-tables columns batch before count bytes plain few short are)

pub left-lawful : (batch : ℕ) (s : BatchesLeft) → All IsPlain (columns_in s) → AreShort s.records → LawfulTables (columns_in s) (batches_left batch s).chunks
left-lawful batch s plain short =
    if-lawful (columns_in s) (body_from s.mark (s.read + 1) (columns_in s) s.records) batch (rows_before s.mark (s.read + 1) (columns_in s) s.records)
    _ _ plain short.0 short.1 (rows-are s.mark (s.read + 1) (columns_in s) s.records plain short.1)
    (λ rows is. all-before s.mark (s.read + 1) (columns_in s) s.records rows is)
