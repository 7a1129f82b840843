-- The units and the blocks of columns that were made.
use Rattle.std.proofs.Common.{◌≡◌, ◌∙◌, ◌+◌, ◌≤◌, ℕ, List, None, Result, Ok, Err, map, ap, sym, subst, arith}
use Rattle.std.specs.Prelude.{IfOk, OnOk, OnErr, MatchResult}
use Rattle.data_types.specs.promise.Value.{Value}
use Rattle.data_types.specs.declared.kind.DataType.{DataType}
use Rattle.raw_array.specs.promise.Members.{ArrayTree, Cost}
use Rattle.col_build.specs.promise.Finished.{blocks_of}
use Rattle.col_build.specs.Holding.{Holds}
use Rattle.col_build.specs.declared.builder.Builder.{Builder}
use Rattle.arr_export.specs.promise.ArrayTrees.{column_tree}
use Rattle.column_fill.proofs.ColumnCosts.{column-cost, few-blocks}
use Rattle.tree_model.specs.Tree.{Depth}
use Rattle.unit_pass.specs.promise.Tally.{risen}
use Rattle.run_ends.specs.declared.encoder.Making.{Making}
use Rattle.run_ends.specs.promise.RunCoding.{Run}
use Rattle.run_ends.specs.RunCoding.{end_kind, end_of, over_runs, tree_of_runs, value_of}
use Rattle.run_ends.specs.RunMaking.{HoldsRuns}

-- of a column that was made
pub units-of : (builder : Builder) (kind : DataType) (values : List Value) (made : ArrayTree) (new old : ℕ) → Holds builder kind values
    → ((k : DataType) (vs : List Value) → Holds builder k vs → made ≡ column_tree k vs None)
    → ((k : DataType) (vs : List Value) → Holds builder k vs → new + (1 + blocks_of k vs) ≡ old) → new + Cost made ≡ old
units-of builder kind values made new old holds tree units =
    ap (λ (t : ArrayTree). new + Cost t) (tree kind values holds) ∙ omega (arith, column-cost kind values None, units kind values holds)

pub cost-few : (builder : Builder) (kind : DataType) (values : List Value) (made : ArrayTree) → Holds builder kind values
    → ((k : DataType) (vs : List Value) → Holds builder k vs → made ≡ column_tree k vs None) → Cost made ≤ 4
cost-few builder kind values made holds tree = omega (arith, ap (λ (t : ArrayTree). Cost t) (tree kind values holds), column-cost kind values None, few-blocks kind values)

pub depth-few : (builder : Builder) (kind : DataType) (values : List Value) (made : ArrayTree) → Holds builder kind values
    → ((k : DataType) (vs : List Value) → Holds builder k vs → made ≡ column_tree k vs None) → Depth made ≤ 127
depth-few builder kind values made holds tree = subst (λ (t : ArrayTree). Depth t ≤ 127) (sym (tree kind values holds)) (omega arith)

-- the tree over two columns that were made
pub top-tree : {E : Type 0} (result : Result ArrayTree E) (making : Making) (ends values : ArrayTree) (count : ℕ)
    → ((k : DataType) (vs : List Value) → Holds making.ends k vs → ends ≡ column_tree k vs None)
    → ((k : DataType) (vs : List Value) → Holds making.values k vs → values ≡ column_tree k vs None)
    → IfOk result (λ tree. tree ≡ over_runs count ends values)
    → IfOk result (λ tree. (kind : DataType) (runs : List Run) → HoldsRuns making kind runs → tree ≡ tree_of_runs kind count runs)
top-tree (Ok tree) making ends values count one other is = λ kind runs holds.
    is ∙ (λ j. over_runs count (one end_kind (map end_of runs) holds.ends j) (other kind (map value_of runs) holds.values j))
top-tree (Err e) making ends values count one other is = tt

-- its blocks
risen-more : (a b c m n : ℕ) → b ≡ risen a m → c ≡ risen b n → c ≡ risen a (m + n)
risen-more a b c m n e f = omega (arith, e, f)

pub top-blocks : {E : Type 0} (result : Result ArrayTree E) (making : Making) (old first second new : ℕ)
    → ((k : DataType) (vs : List Value) → Holds making.ends k vs → first ≡ risen old (blocks_of k vs))
    → ((k : DataType) (vs : List Value) → Holds making.values k vs → second ≡ risen first (blocks_of k vs))
    → OnOk result (new ≡ second)
    → OnOk result ((kind : DataType) (runs : List Run) → HoldsRuns making kind runs
    → new ≡ risen old (blocks_of end_kind (map end_of runs) + blocks_of kind (map value_of runs)))
top-blocks (Ok tree) making old first second new one other is = λ kind runs holds.
    risen-more old first new (blocks_of end_kind (map end_of runs)) (blocks_of kind (map value_of runs)) (one end_kind (map end_of runs) holds.ends)
    (is ∙ other kind (map value_of runs) holds.values)
top-blocks (Err e) making old first second new one other is = tt

pub made-units : {E : Type 0} (result : Result ArrayTree E) (builder : Builder) (kind : DataType) (values : List Value) (new old : ℕ) → Holds builder kind values
    → IfOk result (λ array. (k : DataType) (vs : List Value) → Holds builder k vs → array ≡ column_tree k vs None)
    → OnOk result ((k : DataType) (vs : List Value) → Holds builder k vs → new + (1 + blocks_of k vs) ≡ old) → OnErr result (new ≡ old + 0)
    → MatchResult result (λ made. new + Cost made ≡ old) (λ _. new ≡ old)
made-units (Ok made) builder kind values new old holds tree units back =
    ap (λ (t : ArrayTree). new + Cost t) (tree kind values holds) ∙ omega (arith, column-cost kind values None, units kind values holds)
made-units (Err e) builder kind values new old holds tree units back = omega (arith, back)
