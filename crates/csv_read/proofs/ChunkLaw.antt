-- The chunk of rows meets the rules of a chunk, and its rows are these.
use Rattle.std.proofs.Common.{◌≡◌, ◌∙◌, ◌≤◌, ◌<◌, ◌+◌, ℕ, zero, suc, List, [], ◌∷◌, length, map, get_or, None, All, refl, ap, arith}
use Rattle.std.proofs.lemmas.List.{get_or-map, length-map}
use Rattle.data_types.specs.promise.Table.{Column, Row, Kind, Flat, Dict, Columns}
use Rattle.data_types.specs.promise.Value.{Value, Null}
use Rattle.data_types.specs.declared.kind.DataType.{DataType}
use Rattle.tree_model.specs.promise.TreeParts.{IsLive}
use Rattle.col_build.specs.Encoding.{Fits}
use Rattle.layout_rules.specs.promise.Values.{each, tree_items, values_of}
use Rattle.layout_rules.specs.promise.Walk.{LayoutOk}
use Rattle.arr_export.specs.promise.ArrayTrees.{column_tree}
use Rattle.arr_export.specs.ArrayTrees.{AreLawful, HaveValues, flat_type, rows_of_values}
use Rattle.data_types.specs.promise.ColumnKinds.{type_of_kind}
use Rattle.data_types.specs.ColumnKinds.{types_of_columns}
use Rattle.csv_read.specs.Body.{column_values}
use Rattle.csv_read.specs.Chunks.{FitFrom, FitsKind, column_array, column_arrays}

-- ---- the columns

abbrev Lawful : Type 0
Lawful = (kind : DataType) (values : List Value) → Fits kind values → LayoutOk (flat_type kind None) (column_tree kind values None)

abbrev Valued : Type 0
Valued = (kind : DataType) (values : List Value) → Fits kind values → values_of (flat_type kind None) (column_tree kind values None) ≡ values

abbrev pub all_values : ℕ → List Column → List Row → List (List Value)
all_values place [] rows = []
all_values place (c ∷ cs) rows = column_values place rows ∷ all_values (place + 1) cs rows

lawful-kind : Lawful → (kind : Kind) (values : List Value) → FitsKind kind values → LayoutOk (type_of_kind kind) (column_array kind values)
lawful-kind law (Flat kind) values fits = law kind values fits
lawful-kind law (Dict kind) values fits = absurd fits
lawful-kind law (Columns _) values fits = absurd fits

live-kind : (kind : Kind) → IsLive (type_of_kind kind)
live-kind (Flat kind) = tt
live-kind (Dict kind) = tt
live-kind (Columns _) = tt

pub columns-lawful : Lawful → (place : ℕ) (columns : List Column) (rows : List Row) → FitFrom place columns rows
    → AreLawful (types_of_columns columns) (column_arrays place columns rows)
columns-lawful law place [] rows fits = tt
columns-lawful law place (c ∷ cs) rows fits =
    (live-kind c.kind, lawful-kind law c.kind (column_values place rows) fits.0, columns-lawful law (place + 1) cs rows fits.1)

kind-valued : Valued → (kind : Kind) (values : List Value) → FitsKind kind values → values_of (type_of_kind kind) (column_array kind values) ≡ values
kind-valued law (Flat kind) values fits = law kind values fits
kind-valued law (Dict kind) values fits = absurd fits
kind-valued law (Columns _) values fits = absurd fits

pub columns-valued : Valued → (place : ℕ) (columns : List Column) (rows : List Row) → FitFrom place columns rows
    → HaveValues (types_of_columns columns) (column_arrays place columns rows) (all_values place columns rows)
columns-valued law place [] rows fits = tt
columns-valued law place (c ∷ cs) rows fits = (kind-valued law c.kind (column_values place rows) fits.0, columns-valued law (place + 1) cs rows fits.1)

pub values-long : (place : ℕ) (columns : List Column) (rows : List Row) → All (λ items. length rows ≤ length items) (all_values place columns rows)
values-long place (c ∷ cs) rows zero d small = omega (arith, length-map rows (λ row. get_or row place Null))
values-long place (c ∷ cs) rows (suc k) d small = values-long (place + 1) cs rows k d (omega (arith, small))
values-long place [] rows k d small = absurd (omega (arith, small))

kind-long : (kind : Kind) (values : List Value) → FitsKind kind values → length values ≡ tree_items (column_array kind values)
kind-long (Flat kind) values fits = refl
kind-long (Dict kind) values fits = absurd fits
kind-long (Columns _) values fits = absurd fits

pub columns-long : (place : ℕ) (columns : List Column) (rows : List Row) → FitFrom place columns rows
    → All (λ column. length rows ≤ tree_items column) (column_arrays place columns rows)
columns-long place (c ∷ cs) rows fits zero d small =
    omega (arith, kind-long c.kind (column_values place rows) fits.0, length-map rows (λ row. get_or row place Null))
columns-long place (c ∷ cs) rows fits (suc k) d small = columns-long (place + 1) cs rows fits.1 k d (omega (arith, small))
columns-long place [] rows fits k d small = absurd (omega (arith, small))

-- ---- the rows

each-is : {X : Type 0} (f : ℕ → X) (xs : List X) (from : ℕ) → ((i : ℕ) (d : X) → i < length xs → f (from + i) ≡ get_or xs i d) → each f from (length xs) ≡ xs
each-is f [] from same = refl
each-is f (x ∷ xs) from same =
    let first : f from ≡ x = ap f (omega arith) ∙ same 0 x (omega arith) in
    let rest : each f (suc from) (length xs) ≡ xs = each-is f xs (suc from) (λ i d small. ap f (omega arith) ∙ same (suc i) d (omega (arith, small))) in
    ap (λ y. y ∷ each f (suc from) (length xs)) first ∙ ap (λ ys. x ∷ ys) rest

-- the items of a row from a place on
abbrev row_from : ℕ → List Column → Row → Row
row_from place [] row = []
row_from place (c ∷ cs) row = get_or row place Null ∷ row_from (place + 1) cs row

from-later : (place : ℕ) (columns : List Column) (value : Value) (row : Row) → row_from (suc place) columns (value ∷ row) ≡ row_from place columns row
from-later place [] value row = refl
from-later place (c ∷ cs) value row =
    ap (λ rest. get_or row place Null ∷ rest) (ap (λ n. row_from n cs (value ∷ row)) (omega arith) ∙ from-later (place + 1) cs value row)

whole-row : (columns : List Column) (row : Row) → length row ≡ length columns → row_from 0 columns row ≡ row
whole-row [] [] same = refl
whole-row (c ∷ cs) (value ∷ row) same =
    ap (λ rest. value ∷ rest) (ap (λ n. row_from n cs (value ∷ row)) (omega arith) ∙ from-later 0 cs value row ∙ whole-row cs row (omega (arith, same)))
whole-row [] (value ∷ row) same = absurd (omega (arith, same))
whole-row (c ∷ cs) [] same = absurd (omega (arith, same))

items-are : (place : ℕ) (columns : List Column) (rows : List Row) (i : ℕ) (d : Row) → i < length rows
    → map (λ values. get_or values i Null) (all_values place columns rows) ≡ row_from place columns (get_or rows i d)
items-are place [] rows i d small = refl
items-are place (c ∷ cs) rows i d small =
    let one = get_or-map (λ row. get_or row place Null) rows i d Null small in
    ap (λ v. v ∷ map (λ values. get_or values i Null) (all_values (place + 1) cs rows)) one
    ∙ ap (λ vs. get_or (get_or rows i d) place Null ∷ vs) (items-are (place + 1) cs rows i d small)

pub rows-back : (columns : List Column) (rows : List Row) → All (λ row. length row ≡ length columns) rows
    → rows_of_values (all_values 0 columns rows) (length rows) ≡ rows
rows-back columns rows widths =
    let row_at : ℕ → Row = λ i. map (λ values. get_or values i Null) (all_values 0 columns rows) in
    each-is row_at rows 0
    (λ i d small. ap row_at (omega arith) ∙ items-are 0 columns rows i d small ∙ whole-row columns (get_or rows i d) (widths i d small))
