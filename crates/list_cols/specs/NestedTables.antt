-- The table of rows that are grouped by the values of a column: a column of its distinct values, and a list column for each other one.
use Rattle.std.specs.Prelude.{◌≡◌, ◌≢◌, ◌+◌, ◌-◌, ◌*◌, ◌<◌, ◌≤◌, ℕ, ◌==◌, nat_lt, if◌then◌else◌, List, length, get_or, map, None}
use Rattle.data_types.specs.declared.kind.DataType.{DataType}
use Rattle.data_types.specs.promise.Table.{Row}
use Rattle.tree_model.specs.promise.TreeParts.{children_of}
use Rattle.col_build.specs.Encoding.{Fits}
use Rattle.data_types.specs.ColumnKinds.{table_type}
use Rattle.data_types.specs.promise.KindTrees.{KindTree, kind_in}
use Rattle.layout_rules.specs.promise.Values.{each, rows_of}
use Rattle.arr_export.specs.ArrayTrees.{flat_type}
use Rattle.layout_rules.specs.promise.Rules.{window_limit}
use Rattle.list_cols.specs.ListTrees.{FitLists, list_kind}
use Rattle.list_cols.specs.promise.NestedTables.{keys_of, lists_of, nested_table}
use Rattle.data_types.specs.declared.kind.DataType.TheVariants as kinds
use Rattle.raw_array.specs.promise.Members.{ArrayTree}

-- ---- a column of the table, and its kinds

abbrev pub kind_at : List DataType → ℕ → DataType
kind_at types k = get_or types k kinds.Null

abbrev pub nested_kind : ℕ → List DataType → ℕ → KindTree
nested_kind column types k = if k == column then flat_type (kind_at types k) None else list_kind (kind_at types k)

-- ---- the table of rows with columns of these types

abbrev pub nested_table_type : ℕ → List DataType → KindTree
nested_table_type column types = table_type (each (nested_kind column types) 0 (length types))

-- a column has an encoding
pub record FitColumn (column : ℕ) (types : List DataType) (rows : List Row) (k : ℕ) : Type 0 where
  pub keys : k ≡ column → Fits (kind_at types k) (keys_of column rows)
  pub lists : k ≢ column → FitLists (kind_at types k) (lists_of column rows k)

-- and so have all
pub record FitNested (column : ℕ) (types : List DataType) (rows : List Row) : Type 0 where
  pub columns : (k : ℕ) → k < length types → FitColumn column types rows k
  pub few : length (keys_of column rows) ≤ window_limit

-- ---- what is made

-- the nodes of the first n columns: of the column itself this many, of each other one two, a list and its items
abbrev pub nodes_to : ℕ → ℕ → ℕ → ℕ
nodes_to own column n = if nat_lt column n then own + 2 * (n - 1) else 2 * n

-- ---- of a chunk

abbrev pub nested_type : ℕ → KindTree → KindTree
nested_type column typed = nested_table_type column (map kind_in (children_of typed))

-- ---- of a chunk

abbrev pub nested_array : ℕ → KindTree → ArrayTree → ArrayTree
nested_array column typed array = nested_table column (map kind_in (children_of typed)) (rows_of typed array)
