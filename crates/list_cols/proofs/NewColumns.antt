-- The new columns, one by one, and what they cost.
use Rattle.std.proofs.Common.{◌≡◌, ◌∙◌, ◌≤◌, ◌<◌, ◌+◌, ℕ, zero, suc, List, [], ◌∷◌, ◌++◌, All, length, map, take, get_or, None, Result, Ok, Err, refl, ap, arith}
use Rattle.std.specs.Prelude.{IfOk, MatchResult, OnErr, OnOk}
use Rattle.std.proofs.lemmas.List.{length-map, map-append, take_more}
use Rattle.data_types.specs.promise.Parts.{column_values}
use Rattle.data_types.specs.promise.Table.{Row}
use Rattle.data_types.specs.promise.Value.{Value, Null}
use Rattle.data_types.specs.declared.kind.DataType.{DataType}
use Rattle.data_types.specs.declared.kind.DataType.TheVariants as kinds
use Rattle.raw_array.specs.promise.Members.{ArrayTree, Cost, holds}
use Rattle.raw_array.specs.Members.{cost_of_all}
use Rattle.tree_model.proofs.Measures.{cost_of_all-append}
use Rattle.tree_model.specs.promise.TreeData.{trees}
use Rattle.col_build.specs.promise.Finished.{blocks_of}
use Rattle.col_build.specs.Holding.{Holds}
use Rattle.col_build.specs.declared.builder.Builder.{Builder}
use Rattle.arr_export.specs.promise.ArrayTrees.{column_tree}
use Rattle.arr_export.specs.ArrayTrees.{IsColumn}
use Rattle.arr_export.specs.promise.ValueColumns.{ValueColumn}
use Rattle.arr_export.specs.ValueColumns.{tree_of}
use Rattle.column_fill.proofs.ColumnCosts.{column-cost, few-blocks}
use Rattle.unit_pass.specs.promise.Tally.{risen}
use Rattle.list_cols.specs.promise.Exploded.{blocks_in}
use Rattle.list_cols.specs.promise.FlatTables.{columns_from}
use Rattle.list_cols.specs.FlatTables.{flat_column}

-- ---- the list of the columns

abbrev pub no_column : ValueColumn
no_column = flat_column kinds.Null []

pub many-columns : (types : List DataType) (k : ℕ) (rows : List Row) → length (columns_from k types rows) ≡ length types
many-columns [] k rows = refl
many-columns (kind ∷ types) k rows = ap suc (many-columns types (suc k) rows)

pub column-there : (types : List DataType) (k j : ℕ) (rows : List Row) → j < length types
    → get_or (columns_from k types rows) j no_column ≡ flat_column (get_or types j kinds.Null) (column_values (k + j) rows)
column-there [] k j rows lt = absurd (omega (arith, lt))
column-there (kind ∷ types) k zero rows lt = let here : k ≡ k + 0 = omega arith in ap (λ n. flat_column kind (column_values n rows)) here
column-there (kind ∷ types) k (suc j) rows lt =
    let place : suc k + j ≡ k + suc j = omega arith in
    column-there types (suc k) j rows (omega (arith, lt)) ∙ ap (λ n. flat_column (get_or types j kinds.Null) (column_values n rows)) place

pub column-at : (types : List DataType) (j : ℕ) (rows : List Row) → j < length types
    → get_or (columns_from 0 types rows) j no_column ≡ flat_column (get_or types j kinds.Null) (column_values j rows)
column-at types j rows lt =
    let place : 0 + j ≡ j = omega arith in
    column-there types 0 j rows lt ∙ ap (λ n. flat_column (get_or types j kinds.Null) (column_values n rows)) place

pub trees-next : (columns : List ValueColumn) (k : ℕ) → k < length columns
    → map tree_of (take (k + 1) columns) ≡ map tree_of (take k columns) ++ tree_of (get_or columns k no_column) ∷ []
trees-next columns k lt = ap (map tree_of) (take_more columns k no_column lt) ∙ map-append tree_of (take k columns) (get_or columns k no_column ∷ [])

blocks-append : (xs ys : List ValueColumn) → blocks_in (xs ++ ys) ≡ blocks_in xs + blocks_in ys
blocks-append [] ys = omega arith
blocks-append (x ∷ xs) ys = omega (arith, blocks-append xs ys)

abbrev pub own_blocks : ValueColumn → ℕ
own_blocks c = blocks_of c.own.kind c.own.values

pub blocks-next : (columns : List ValueColumn) (k : ℕ) → k < length columns
    → blocks_in (take (k + 1) columns) ≡ blocks_in (take k columns) + own_blocks (get_or columns k no_column)
blocks-next columns k lt =
    ap blocks_in (take_more columns k no_column lt) ∙ blocks-append (take k columns) (get_or columns k no_column ∷ [])
    ∙ (let end : own_blocks (get_or columns k no_column) + 0 ≡ own_blocks (get_or columns k no_column) = omega arith in
    ap (λ n. blocks_in (take k columns) + n) end)

pub cost-push : (xs : List ArrayTree) (x : ArrayTree) → cost_of_all (trees (xs ++ x ∷ [])) ≡ cost_of_all (trees xs) + Cost x
cost-push xs x = omega (arith, cost_of_all-append holds xs (x ∷ []))

-- each has an item for each row
pub are-columns : (types : List DataType) (k : ℕ) (rows : List Row) → All (IsColumn (length rows)) (map tree_of (columns_from k types rows))
are-columns [] k rows i d lt = absurd (omega (arith, lt))
are-columns (kind ∷ types) k rows zero d lt = record {
  live = tt;
  not_deep = omega arith;
  long = omega (arith, length-map rows (λ (row : Row). get_or row k Null));
}
are-columns (kind ∷ types) k rows (suc i) d lt = are-columns types (suc k) rows i d (omega (arith, lt))

-- ---- a column that was made of a builder

abbrev MadeTree : {E : Type 0} → Result ArrayTree E → Builder → Type 0
MadeTree result builder = IfOk result (λ array. (k : DataType) (vs : List Value) → Holds builder k vs → array ≡ column_tree k vs None)

pub made-tree : {E : Type 0} (result : Result ArrayTree E) (builder : Builder) (kind : DataType) (values : List Value) → Holds builder kind values
    → MadeTree result builder → IfOk result (λ made. made ≡ column_tree kind values None)
made-tree (Ok made) builder kind values holds tree = tree kind values holds
made-tree (Err e) builder kind values holds tree = tt

pub made-cost : {E : Type 0} (result : Result ArrayTree E) (builder : Builder) (kind : DataType) (values : List Value) → Holds builder kind values
    → MadeTree result builder → IfOk result (λ made. Cost made ≤ 4)
made-cost (Ok made) builder kind values holds tree =
    omega (arith, ap (λ (t : ArrayTree). Cost t) (tree kind values holds), column-cost kind values None, few-blocks kind values)
made-cost (Err e) builder kind values holds tree = tt

pub made-units : {E : Type 0} (result : Result ArrayTree E) (builder : Builder) (kind : DataType) (values : List Value) (new old : ℕ) → Holds builder kind values
    → MadeTree result builder
    → OnOk result ((k : DataType) (vs : List Value) → Holds builder k vs → new + (1 + blocks_of k vs) ≡ old) → OnErr result (new ≡ old + 0)
    → MatchResult result (λ made. new + Cost made ≡ old) (λ _. new ≡ old)
made-units (Ok made) builder kind values new old holds tree units back =
    ap (λ (t : ArrayTree). new + Cost t) (tree kind values holds) ∙ omega (arith, column-cost kind values None, units kind values holds)
made-units (Err e) builder kind values new old holds tree units back = omega (arith, back)

pub made-blocks : {E : Type 0} (result : Result ArrayTree E) (builder : Builder) (kind : DataType) (values : List Value) (new old : ℕ) → Holds builder kind values
    → OnOk result ((k : DataType) (vs : List Value) → Holds builder k vs → new ≡ risen old (blocks_of k vs))
    → OnOk result (new ≡ risen old (blocks_of kind values))
made-blocks (Ok made) builder kind values new old holds blocks = blocks kind values holds
made-blocks (Err e) builder kind values new old holds blocks = tt
