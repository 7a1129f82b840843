-- The arrays of builders that hold rows.
use Rattle.std.proofs.Common.{◌≡◌, ◌∙◌, ◌≤◌, ◌<◌, ◌+◌, ℕ, zero, suc, List, [], ◌∷◌, length, get_or, All, refl, ap, subst, arith}
use Rattle.std.proofs.lemmas.List.{length-map}
use Rattle.std.proofs.lemmas.List.Sums.{sum_by-cons}
use Rattle.data_types.specs.promise.Table.{Column, Row, Kind, Flat, Dict, Columns}
use Rattle.data_types.specs.promise.Value.{Value, Null}
use Rattle.raw_array.specs.promise.Members.{ArrayTree}
use Rattle.col_build.specs.Holding.{HoldsSome}
use Rattle.col_build.specs.declared.builder.Builder.{Builder}
use Rattle.arr_export.specs.ArrayTrees.{IsColumn}
use Rattle.csv_read.specs.Body.{HoldEach, HoldsKind, column_values}
use Rattle.csv_read.specs.Chunks.{AreColumnsOf, FitFrom, FitsKind, IsColumnOf, all_blocks, blocks_from, column_array, column_arrays, column_blocks, own_blocks}
use Rattle.csv_read.proofs.ChunkCosts.{column-blocks}

-- the builders hold the columns from a place on
abbrev pub HoldFrom : ℕ → List Builder → List Column → List Row → Type 0
HoldFrom place [] [] rows = Unit {0}
HoldFrom place (builder ∷ builders) (column ∷ columns) rows =
    HoldsKind builder column.kind (column_values place rows) × HoldFrom (place + 1) builders columns rows
HoldFrom place _ _ rows = ⊥

hold-from : (place : ℕ) (builders : List Builder) (columns : List Column) (rows : List Row) → length builders ≡ length columns
    → ((j : ℕ) (b : Builder) (c : Column) → j < length columns → HoldsKind (get_or builders j b) (get_or columns j c).kind (column_values (place + j) rows))
    → HoldFrom place builders columns rows
hold-from place [] [] rows count each = tt
hold-from place (b ∷ bs) (c ∷ cs) rows count each =
    let first : HoldsKind b c.kind (column_values place rows) =
    subst (λ n. HoldsKind b c.kind (column_values n rows)) (omega arith) (each 0 b c (omega arith)) in (
      first,
      hold-from (place + 1) bs cs rows (omega (arith, count)) (λ j d e small.
          subst (λ n. HoldsKind (get_or bs j d) (get_or cs j e).kind (column_values n rows)) (omega arith) (each (suc j) d e (omega (arith, small)))),
    )
hold-from place [] (c ∷ cs) rows count each = absurd (omega (arith, count))
hold-from place (b ∷ bs) [] rows count each = absurd (omega (arith, count))

pub from-each : (builders : List Builder) (columns : List Column) (rows : List Row) → HoldEach builders columns rows → HoldFrom 0 builders columns rows
from-each builders columns rows held =
    hold-from 0 builders columns rows held.count
    (λ j b c small. subst (λ n. HoldsKind (get_or builders j b) (get_or columns j c).kind (column_values n rows)) (omega arith) (held.each j b c small))

-- ---- what the builders hold
kind-some : (builder : Builder) (kind : Kind) (values : List Value) → HoldsKind builder kind values → HoldsSome builder
kind-some builder (Flat kind) values holds = (kind, values, holds)
kind-some builder (Dict kind) values holds = absurd holds
kind-some builder (Columns _) values holds = absurd holds

pub held-some : (place : ℕ) (builders : List Builder) (columns : List Column) (rows : List Row) → HoldFrom place builders columns rows → All HoldsSome builders
held-some place (b ∷ bs) (c ∷ cs) rows held zero d small = kind-some b c.kind (column_values place rows) held.0
held-some place (b ∷ bs) (c ∷ cs) rows held (suc k) d small = held-some (place + 1) bs cs rows held.1 k d (omega (arith, small))
held-some place [] columns rows held k d small = absurd (omega (arith, small))
held-some place (b ∷ bs) [] rows held k d small = absurd held

kind-fits : (builder : Builder) (kind : Kind) (values : List Value) → HoldsKind builder kind values → FitsKind kind values
kind-fits builder (Flat kind) values holds = holds.fits
kind-fits builder (Dict kind) values holds = absurd holds
kind-fits builder (Columns _) values holds = absurd holds

pub held-fit : (place : ℕ) (builders : List Builder) (columns : List Column) (rows : List Row) → HoldFrom place builders columns rows
    → FitFrom place columns rows
held-fit place [] [] rows held = tt
held-fit place (b ∷ bs) (c ∷ cs) rows held = (kind-fits b c.kind (column_values place rows) held.0, held-fit (place + 1) bs cs rows held.1)
held-fit place [] (c ∷ cs) rows held = absurd held
held-fit place (b ∷ bs) [] rows held = absurd held

kind-array : (builder : Builder) (kind : Kind) (values : List Value) (array : ArrayTree) → HoldsKind builder kind values → IsColumnOf builder array
    → array ≡ column_array kind values
kind-array builder (Flat kind) values array holds is = is kind values holds
kind-array builder (Dict kind) values array holds is = absurd holds
kind-array builder (Columns _) values array holds is = absurd holds

pub columns-are : (place : ℕ) (builders : List Builder) (columns : List Column) (rows : List Row) (arrays : List ArrayTree)
    → HoldFrom place builders columns rows → AreColumnsOf builders arrays
    → arrays ≡ column_arrays place columns rows
columns-are place [] [] rows [] held are = refl
columns-are place (b ∷ bs) (c ∷ cs) rows (a ∷ as') held are =
    ap (λ x. x ∷ as') (kind-array b c.kind (column_values place rows) a held.0 are.0)
    ∙ ap (λ xs. column_array c.kind (column_values place rows) ∷ xs) (columns-are (place + 1) bs cs rows as' held.1 are.1)
columns-are place [] [] rows (a ∷ as') held are = absurd are
columns-are place (b ∷ bs) (c ∷ cs) rows [] held are = absurd are
columns-are place [] (c ∷ cs) rows arrays held are = absurd held
columns-are place (b ∷ bs) [] rows arrays held are = absurd held

-- ---- what a table asks of them

kind-column : (kind : Kind) (values : List Value) (rows : ℕ) → FitsKind kind values → rows ≤ length values → IsColumn rows (column_array kind values)
kind-column (Flat kind) values rows fits long = record { live = tt; not_deep = omega arith; long = long }
kind-column (Dict kind) values rows fits long = absurd fits
kind-column (Columns _) values rows fits long = absurd fits

pub are-columns : (place : ℕ) (columns : List Column) (rows : List Row) → FitFrom place columns rows
    → All (IsColumn (length rows)) (column_arrays place columns rows)
are-columns place (c ∷ cs) rows fits zero d small =
    kind-column c.kind (column_values place rows) (length rows) fits.0 (omega (arith, length-map rows (λ row. get_or row place Null)))
are-columns place (c ∷ cs) rows fits (suc k) d small = are-columns (place + 1) cs rows fits.1 k d (omega (arith, small))
are-columns place [] rows fits k d small = absurd (omega (arith, small))

kind-blocks : (kind : Kind) (values : List Value) → own_blocks (column_array kind values) ≡ column_blocks kind values
kind-blocks (Flat kind) values = column-blocks kind values
kind-blocks (Dict kind) values = refl
kind-blocks (Columns _) values = refl

pub blocks-are : (place : ℕ) (columns : List Column) (rows : List Row) → all_blocks (column_arrays place columns rows) ≡ blocks_from place columns rows
blocks-are place [] rows = refl
blocks-are place (c ∷ cs) rows =
    let first = kind-blocks c.kind (column_values place rows) in
    let cons = sum_by-cons own_blocks (column_array c.kind (column_values place rows)) (column_arrays (place + 1) cs rows) in
    omega (arith, first, cons, blocks-are (place + 1) cs rows)
