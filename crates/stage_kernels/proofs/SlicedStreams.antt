-- What holds of the tables of a slice, since it holds of those before it.
use Rattle.std.proofs.Common.{arith, ◌≡◌, ◌≤◌, ◌+◌, ℕ, List, [], ◌∷◌, true, false, length, map, sym, subst, refl, if◌then◌else◌, inl, inr}
use Rattle.std.specs.List.{AllByRecursion}
use Rattle.data_types.specs.ColumnView.{column_of}
use Rattle.data_types.specs.promise.Table.{Column, Row}
use Rattle.data_types.specs.declared.kind.ColumnType.{ColumnType}
use Rattle.stage_model.specs.promise.Stages.{sliced, sliced_chunks, unless_empty}
use Rattle.stage_model.specs.Stages.{is_within}
use Rattle.stream_face.specs.Lawful.{IsTable, LawfulColumns, LawfulTables, total_rows}
use Rattle.stages.proofs.ColumnSets.{same_columns}
use Rattle.stage_kernels.specs.Slices.{SliceFits}
use Rattle.stage_kernels.proofs.PartRows.{IsPart, part-length, table-part}

part-behind : {A : Type 0} (xs : List A) (y : A) (ys : List A) → IsPart xs ys → IsPart xs (y ∷ ys)
part-behind [] y ys part = tt
part-behind (x ∷ xs) y ys part = inr part

sliced-part : (off len number : ℕ) (rows : List Row) → IsPart (sliced off len number rows) rows
sliced-part off len number [] = tt
sliced-part off len number (row ∷ rows) =
    let rest = sliced off len (number + 1) rows in
    let part = sliced-part off len (number + 1) rows in
    elim (is_within off len number) as (λ b. IsPart (if b then row ∷ rest else rest) (row ∷ rows))
    [ true ↦ inl (refl, part) | false ↦ part-behind rest row rows part ]

unless-each : (P : List Row → Type 0) (rows : List Row) (chunks : List (List Row)) → P rows → AllByRecursion P chunks
    → AllByRecursion P (unless_empty rows chunks)
unless-each P [] chunks first rest = rest
unless-each P (row ∷ rows) chunks first rest = (first, rest)

unless-total : (rows : List Row) (chunks : List (List Row)) → total_rows (unless_empty rows chunks) ≤ length rows + total_rows chunks
unless-total [] chunks = omega arith
unless-total (row ∷ rows) chunks = omega arith

tables-kept : (columns : List Column) (off len number : ℕ) (chunks : List (List Row)) → AllByRecursion (IsTable columns) chunks
    → AllByRecursion (IsTable columns) (sliced_chunks off len number chunks)
tables-kept columns off len number [] tables = tt
tables-kept columns off len number (rows ∷ chunks) tables =
    unless-each (IsTable columns) (sliced off len number rows) (sliced_chunks off len (number + length rows) chunks)
    (table-part columns (sliced off len number rows) rows (sliced-part off len number rows) tables.0)
    (tables-kept columns off len (number + length rows) chunks tables.1)

rows-kept : (off len number : ℕ) (chunks : List (List Row)) → total_rows (sliced_chunks off len number chunks) ≤ total_rows chunks
rows-kept off len number [] = omega arith
rows-kept off len number (rows ∷ chunks) =
    let a = unless-total (sliced off len number rows) (sliced_chunks off len (number + length rows) chunks) in
    let b = part-length (sliced off len number rows) rows (sliced-part off len number rows) in
    let c = rows-kept off len (number + length rows) chunks in
    omega (arith, a, b, c)

pub kept_columns : (kept : List ColumnType) (before : List Column) → ∥ SliceFits kept before ∥₁ → map column_of kept ≡ before
kept_columns kept before fits = same_columns (map column_of kept) before (λ (f : SliceFits kept before). f.columns) fits

pub slice_lawful : (kept : List ColumnType) (before : List Column) → ∥ SliceFits kept before ∥₁ → LawfulColumns before → LawfulColumns (map column_of kept)
slice_lawful kept before fits lawful = subst LawfulColumns (sym (kept_columns kept before fits)) lawful

pub slice_tables : (kept : List ColumnType) (skip keep : ℕ) (columns : List Column) (ahead : List (List Row)) → ∥ SliceFits kept columns ∥₁
    → LawfulTables columns ahead → LawfulTables (map column_of kept) (sliced_chunks skip keep 0 ahead)
slice_tables kept skip keep columns ahead fits lawful =
    subst (λ cs. LawfulTables cs (sliced_chunks skip keep 0 ahead)) (sym (kept_columns kept columns fits)) (record {
      tables = tables-kept columns skip keep 0 ahead lawful.tables;
      rows = let e = rows-kept skip keep 0 ahead in omega (arith, e, lawful.rows);
    })
