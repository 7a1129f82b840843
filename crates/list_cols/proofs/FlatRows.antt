-- A table of flat columns that is made of rows has these rows.
use Rattle.std.proofs.Common.{◌≡◌, ◌∙◌, ℕ, zero, suc, ◌+◌, ◌<◌, ◌≤◌, ◌^◌, List, [], ◌∷◌, All, length, map, get_or, drop, None, refl, sym, ap, subst, arith}
use Rattle.std.proofs.Math.Seq.{drop-cons, drop-length}
use Rattle.std.proofs.lemmas.List.{get_or-map, length-map}
use Rattle.data_types.specs.declared.kind.DataType.{DataType}
use Rattle.data_types.specs.declared.kind.DataType.TheVariants as kinds
use Rattle.data_types.specs.promise.Parts.{column_values}
use Rattle.data_types.specs.promise.Table.{Row}
use Rattle.data_types.specs.promise.Value.{Value, Null}
use Rattle.col_build.specs.Encoding.{Fits}
use Rattle.data_types.specs.ColumnKinds.{table_type}
use Rattle.data_types.specs.promise.KindTrees.{KindTree}
use Rattle.layout_rules.specs.promise.Values.{rows_of}
use Rattle.layout_rules.specs.promise.Walk.{ChunkOk}
use Rattle.arr_export.specs.promise.ArrayTrees.{table_tree}
use Rattle.arr_export.specs.ArrayTrees.{flat_type, rows_of_values}
use Rattle.arr_export.specs.promise.ValueColumns.{ValueColumn}
use Rattle.arr_export.specs.ValueColumns.{IsValueColumn, items_of, tree_of, type_of}
use Rattle.arr_export.proofs.Each.{each-is}
use Rattle.list_cols.specs.promise.FlatTables.{columns_from}
use Rattle.list_cols.specs.FlatTables.{flat_table, flat_table_type}

-- a row of the columns from one of them on
row-from : (shapes : List DataType) (k i : ℕ) (rows : List Row) → i < length rows → length (get_or rows i []) ≡ k + length shapes
    → map (λ (values : List Value). get_or values i Null) (map items_of (columns_from k shapes rows)) ≡ drop k (get_or rows i [])
row-from [] k i rows lt long =
    let e : k ≡ length (get_or rows i []) = omega (arith, long) in
    sym (ap (λ n. drop n (get_or rows i [])) e ∙ drop-length (get_or rows i []))
row-from (kind ∷ shapes) k i rows lt long =
    let row = get_or rows i [] in
    (λ t. get_or-map (λ (r : Row). get_or r k Null) rows i [] Null lt t ∷ row-from shapes (suc k) i rows lt (omega (arith, long)) t)
    ∙ sym (drop-cons row k Null (omega (arith, long)))

pub rows-back : (shapes : List DataType) (rows : List Row) → All (λ (row : Row). length row ≡ length shapes) rows
    → rows_of_values (map items_of (columns_from 0 shapes rows)) (length rows) ≡ rows
rows-back shapes rows wide =
    let own : ℕ → Row = λ i. map (λ (values : List Value). get_or values i Null) (map items_of (columns_from 0 shapes rows)) in
    each-is own rows 0 []
    (λ i lt.
    let place : 0 + i ≡ i = omega arith in
    ap own place ∙ row-from shapes 0 i rows lt (omega (arith, wide i [] lt)))

-- ---- what the columns are

columns-fit : (shapes : List DataType) (k : ℕ) (rows : List Row) → ((j : ℕ) → j < length shapes → Fits (get_or shapes j kinds.Null) (column_values (k + j) rows))
    → All (IsValueColumn (length rows)) (columns_from k shapes rows)
columns-fit [] k rows fits i d lt = absurd (omega (arith, lt))
columns-fit (kind ∷ shapes) k rows fits zero d lt =
    let here : k + 0 ≡ k = omega arith in
    record {
      fits = subst (λ n. Fits kind (column_values n rows)) here (fits 0 (omega arith));
      long = omega (arith, length-map rows (λ (row : Row). get_or row k Null));
      entries = tt;
    }
columns-fit (kind ∷ shapes) k rows fits (suc i) d lt =
    columns-fit shapes (suc k) rows (λ j small.
    let place : k + suc j ≡ suc k + j = omega arith in
    subst (λ n. Fits (get_or shapes j kinds.Null) (column_values n rows)) place (fits (suc j) (omega (arith, small)))) i d (omega (arith, lt))

column-types : (shapes : List DataType) (k : ℕ) (rows : List Row) → map type_of (columns_from k shapes rows) ≡ map (λ kind. flat_type kind None) shapes
column-types [] k rows = refl
column-types (kind ∷ shapes) k rows = ap (λ (ts : List KindTree). flat_type kind None ∷ ts) (column-types shapes (suc k) rows)

abbrev FitAll : List DataType → List Row → Type 0
FitAll shapes rows = (k : ℕ) → k < length shapes → Fits (get_or shapes k kinds.Null) (column_values k rows)

all-fit : (shapes : List DataType) (rows : List Row) → FitAll shapes rows → All (IsValueColumn (length rows)) (columns_from 0 shapes rows)
all-fit shapes rows fits =
    columns-fit shapes 0 rows (λ j lt.
    let place : j ≡ 0 + j = omega arith in
    subst (λ n. Fits (get_or shapes j kinds.Null) (column_values n rows)) place (fits j lt))

pub table-chunk : ((columns : List ValueColumn) (rows : ℕ) → All (IsValueColumn rows) columns → rows ≤ 2 ^ 40
    → ChunkOk (table_type (map type_of columns)) (table_tree rows (map tree_of columns)))
    → (shapes : List DataType) (rows : List Row) → ((k : ℕ) → k < length shapes → Fits (get_or shapes k kinds.Null) (column_values k rows))
    → length rows ≤ 2 ^ 40 → ChunkOk (flat_table_type shapes) (flat_table shapes rows)
table-chunk law shapes rows fits few =
    subst (λ (ts : List KindTree). ChunkOk (table_type ts) (flat_table shapes rows)) (column-types shapes 0 rows)
    (law (columns_from 0 shapes rows) (length rows) (all-fit shapes rows fits) few)

pub table-rows : ((columns : List ValueColumn) (rows : ℕ) → All (IsValueColumn rows) columns
    → rows_of (table_type (map type_of columns)) (table_tree rows (map tree_of columns)) ≡ rows_of_values (map items_of columns) rows)
    → (shapes : List DataType) (rows : List Row) → ((k : ℕ) → k < length shapes → Fits (get_or shapes k kinds.Null) (column_values k rows))
    → All (λ (row : Row). length row ≡ length shapes) rows → rows_of (flat_table_type shapes) (flat_table shapes rows) ≡ rows
table-rows law shapes rows fits wide =
    ap (λ (ts : List KindTree). rows_of (table_type ts) (flat_table shapes rows)) (sym (column-types shapes 0 rows))
    ∙ law (columns_from 0 shapes rows) (length rows) (all-fit shapes rows fits) ∙ rows-back shapes rows wide
