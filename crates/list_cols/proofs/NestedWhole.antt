-- The table of grouped rows as it is made, and when it would be too long.
use Rattle.std.proofs.Common.{◌≡◌, ◌∙◌, ◌≤◌, ◌<◌, ◌+◌, ◌^◌, ℕ, List, [], ◌∷◌, All, Bool, true, false, length, map, get_or, None, refl, ap, subst, arith}
use Rattle.std.proofs.lemmas.Bool.{le-ltb, lt-ltb}
use Rattle.std.proofs.lemmas.List.{length-map}
use Rattle.std.specs.Prelude.{if◌then◌else◌, nat_lt, ◌==◌, ◌&&◌, ◌||◌}
use Rattle.data_types.specs.promise.Parts.{column_values}
use Rattle.data_types.specs.promise.Table.{Row}
use Rattle.data_types.specs.declared.kind.DataType.{DataType}
use Rattle.data_types.specs.promise.Value.{Value, Null}
use Rattle.tree_model.specs.promise.TreeParts.{children_of}
use Rattle.raw_array.specs.promise.Members.{ArrayTree}
use Rattle.data_types.specs.promise.KindTrees.{KindTree, kind_in}
use Rattle.layout_rules.specs.promise.Values.{each, row_items, rows_of, tree_items}
use Rattle.arr_export.specs.promise.ArrayTrees.{column_tree, table_tree}
use Rattle.arr_export.specs.ArrayTrees.{IsColumn}
use Rattle.arr_export.proofs.Each.{length-each}
use Rattle.list_cols.specs.promise.Faults.{most_named}
use Rattle.list_cols.specs.promise.ListTrees.{list_tree}
use Rattle.list_cols.specs.promise.NestFaults.{is_nest_too_long}
use Rattle.list_cols.specs.promise.NestedTables.{keys_of, lists_of, nested_column}
use Rattle.list_cols.specs.NestedTables.{FitColumn, FitNested, kind_at, nested_array}
use Rattle.list_cols.proofs.NestedLaw.{all-each, nested-length}
use Rattle.list_cols.proofs.NestedRows.{few-distinct}

-- ---- its columns

column-if : (n : ℕ) (b : Bool) (kind : DataType) (keys : List Value) (lists : List (List Value))
    → n ≤ tree_items (if b then column_tree kind keys None else list_tree kind lists) → IsColumn n (if b then column_tree kind keys None else list_tree kind lists)
column-if n true kind keys lists long = record { live = tt; not_deep = omega arith; long = long }
column-if n false kind keys lists long = record { live = tt; not_deep = omega arith; long = long }

pub one-column : (column : ℕ) (types : List DataType) (rows : List Row) (k : ℕ) → IsColumn (length (keys_of column rows)) (nested_column column types rows k)
one-column column types rows k =
    column-if (length (keys_of column rows)) (k == column) (kind_at types k) (keys_of column rows) (lists_of column rows k) (nested-length column types rows k)

pub all-columns : (column : ℕ) (types : List DataType) (rows : List Row) (width : ℕ)
    → All (IsColumn (length (keys_of column rows))) (each (nested_column column types rows) 0 width)
all-columns column types rows width =
    all-each (IsColumn (length (keys_of column rows))) (nested_column column types rows) 0 width (λ i lt. one-column column types rows (0 + i))

-- ---- how many rows there are

pub many-rows : (typed : KindTree) (array : ArrayTree) → length (rows_of typed array) ≡ tree_items array
many-rows typed array = length-each (row_items typed array) 0 (tree_items array)

pub few-keys : (column : ℕ) (rows : List Row) → length (keys_of column rows) ≤ length rows
few-keys column rows =
    omega (arith, few-distinct (column_values column rows), length-map rows (λ (row : Row). get_or row column Null))

-- ---- one column alone

module _ (column : ℕ) (typed : KindTree) (array : ArrayTree) (inside : column < length (children_of typed)) (alone : length (children_of typed) ≡ 1) where
  abbrev types : List DataType
  types = map kind_in (children_of typed)

  abbrev rows : List Row
  rows = rows_of typed array

  pub lone-array : table_tree (length (keys_of column rows)) (nested_column column types rows column ∷ []) ≡ nested_array column typed array
  lone-array =
      let first : column ≡ 0 = omega (arith, inside, alone) in
      let width : 1 ≡ length types = omega (arith, alone, length-map (children_of typed) kind_in) in
      ap (λ n. table_tree (length (keys_of column rows)) (nested_column column types rows n ∷ [])) first
      ∙ ap (λ n. table_tree (length (keys_of column rows)) (each (nested_column column types rows) 0 n)) width

  pub lone-fit : FitColumn column types rows column → tree_items array ≤ 2 ^ 40 → FitNested column types rows
  lone-fit fit few = record {
    columns = λ k lt.
        let here : column ≡ k = omega (arith, inside, alone, lt, length-map (children_of typed) kind_in) in
        subst (FitColumn column types rows) here fit;
    few = omega (arith, few-keys column rows, many-rows typed array, few);
  }

-- ---- what is too long

or-true : (b : Bool) → (b || true) ≡ true
or-true true = refl
or-true false = refl

and-false : (b : Bool) → (b && false) ≡ false
and-false true = refl
and-false false = refl

-- one column has too many distinct values, or not
pub lone-long : (width column : ℕ) (rows : List Row) → most_named < length (keys_of column rows) → is_nest_too_long width column rows ≡ true
lone-long width column rows more = ap (λ b. b || (nat_lt 1 width && nat_lt most_named (length rows))) (lt-ltb most_named (length (keys_of column rows)) more)

pub lone-short : (width column : ℕ) (rows : List Row) → width ≡ 1 → length (keys_of column rows) ≤ most_named → is_nest_too_long width column rows ≡ false
lone-short width column rows alone few =
    ap (λ b. b || (nat_lt 1 width && nat_lt most_named (length rows))) (le-ltb most_named (length (keys_of column rows)) few)
    ∙ ap (λ b. b && nat_lt most_named (length rows)) (le-ltb 1 width (omega (arith, alone)))

-- two columns or more have too many rows, or not
pub rows-long : (width column : ℕ) (rows : List Row) → 1 < width → most_named < length rows → is_nest_too_long width column rows ≡ true
rows-long width column rows wide more =
    ap (λ b. nat_lt most_named (length (keys_of column rows)) || (b && nat_lt most_named (length rows))) (lt-ltb 1 width wide)
    ∙ ap (λ b. nat_lt most_named (length (keys_of column rows)) || b) (lt-ltb most_named (length rows) more)
    ∙ or-true (nat_lt most_named (length (keys_of column rows)))

pub rows-short : (width column : ℕ) (rows : List Row) → length rows ≤ most_named → is_nest_too_long width column rows ≡ false
rows-short width column rows few =
    ap (λ b. b || (nat_lt 1 width && nat_lt most_named (length rows)))
    (le-ltb most_named (length (keys_of column rows)) (omega (arith, few, few-keys column rows)))
    ∙ ap (λ b. nat_lt 1 width && b) (le-ltb most_named (length rows) few) ∙ and-false (nat_lt 1 width)
