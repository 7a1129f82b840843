-- The rows of a table are those that its columns give back.
use Rattle.std.proofs.Common.{◌≡◌, ◌∙◌, ◌≤◌, ◌<◌, ◌+◌, ℕ, zero, suc, List, [], ◌∷◌, length, map, get_or, All, refl, ap, arith}
use Rattle.std.proofs.lemmas.List.{get_or-map, length-map}
use Rattle.data_types.specs.promise.Parts.{column_values}
use Rattle.data_types.specs.promise.Table.{Column, Row}
use Rattle.data_types.specs.promise.Value.{Value, Null}
use Rattle.layout_rules.specs.promise.Values.{each}
use Rattle.arr_export.specs.ArrayTrees.{rows_of_values}

abbrev pub all_values : ℕ → List Column → List Row → List (List Value)
all_values place [] rows = []
all_values place (c ∷ cs) rows = column_values place rows ∷ all_values (place + 1) cs rows

pub values-long : (place : ℕ) (columns : List Column) (rows : List Row) → All (λ items. length rows ≤ length items) (all_values place columns rows)
values-long place (c ∷ cs) rows zero d small = omega (arith, length-map rows (λ row. get_or row place Null))
values-long place (c ∷ cs) rows (suc k) d small = values-long (place + 1) cs rows k d (omega (arith, small))
values-long place [] rows k d small = absurd (omega (arith, small))

each-is : {X : Type 0} (f : ℕ → X) (xs : List X) (from : ℕ) → ((i : ℕ) (d : X) → i < length xs → f (from + i) ≡ get_or xs i d) → each f from (length xs) ≡ xs
each-is f [] from same = refl
each-is f (x ∷ xs) from same =
    let first : f from ≡ x = ap f (omega arith) ∙ same 0 x (omega arith) in
    let rest : each f (suc from) (length xs) ≡ xs = each-is f xs (suc from) (λ i d small. ap f (omega arith) ∙ same (suc i) d (omega (arith, small))) in
    ap (λ y. y ∷ each f (suc from) (length xs)) first ∙ ap (λ ys. x ∷ ys) rest

-- the items of a row from a place on
abbrev row_from : ℕ → List Column → Row → Row
row_from place [] row = []
row_from place (c ∷ cs) row = get_or row place Null ∷ row_from (place + 1) cs row

from-later : (place : ℕ) (columns : List Column) (value : Value) (row : Row) → row_from (suc place) columns (value ∷ row) ≡ row_from place columns row
from-later place [] value row = refl
from-later place (c ∷ cs) value row =
    ap (λ rest. get_or row place Null ∷ rest) (ap (λ n. row_from n cs (value ∷ row)) (omega arith) ∙ from-later (place + 1) cs value row)

whole-row : (columns : List Column) (row : Row) → length row ≡ length columns → row_from 0 columns row ≡ row
whole-row [] [] same = refl
whole-row (c ∷ cs) (value ∷ row) same =
    ap (λ rest. value ∷ rest) (ap (λ n. row_from n cs (value ∷ row)) (omega arith) ∙ from-later 0 cs value row ∙ whole-row cs row (omega (arith, same)))
whole-row [] (value ∷ row) same = absurd (omega (arith, same))
whole-row (c ∷ cs) [] same = absurd (omega (arith, same))

items-are : (place : ℕ) (columns : List Column) (rows : List Row) (i : ℕ) (d : Row) → i < length rows
    → map (λ values. get_or values i Null) (all_values place columns rows) ≡ row_from place columns (get_or rows i d)
items-are place [] rows i d small = refl
items-are place (c ∷ cs) rows i d small =
    let one = get_or-map (λ row. get_or row place Null) rows i d Null small in
    ap (λ v. v ∷ map (λ values. get_or values i Null) (all_values (place + 1) cs rows)) one
    ∙ ap (λ vs. get_or (get_or rows i d) place Null ∷ vs) (items-are (place + 1) cs rows i d small)

pub rows-back : (columns : List Column) (rows : List Row) → All (λ row. length row ≡ length columns) rows
    → rows_of_values (all_values 0 columns rows) (length rows) ≡ rows
rows-back columns rows widths =
    let row_at : ℕ → Row = λ i. map (λ values. get_or values i Null) (all_values 0 columns rows) in
    each-is row_at rows 0
    (λ i d small. ap row_at (omega arith) ∙ items-are 0 columns rows i d small ∙ whole-row columns (get_or rows i d) (widths i d small))
