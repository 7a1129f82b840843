-- The table of rows that are grouped by the values of a column: a column of its distinct values, and a list column for each other one.
use Rattle.std.specs.Prelude.{◌-◌, ◌*◌, ℕ, ◌==◌, if◌then◌else◌, List, get_or, length, map, None}
use Rattle.data_types.specs.declared.kind.DataType.{DataType}
use Rattle.data_types.specs.declared.kind.DataType.TheVariants as kinds
use Rattle.data_types.specs.promise.Parts.{column_values}
use Rattle.data_types.specs.promise.Table.{Row}
use Rattle.data_types.specs.promise.Value.{Value}
use Rattle.tree_model.specs.promise.TreeParts.{children_of}
use Rattle.raw_array.specs.promise.Members.{ArrayTree, Cost}
use Rattle.data_types.specs.promise.KindTrees.{KindTree, kind_in}
use Rattle.layout_rules.specs.promise.Values.{each, rows_of}
use Rattle.arr_export.specs.promise.ArrayTrees.{column_tree, table_tree}
use Rattle.list_cols.specs.promise.ListTrees.{list_tree}
use Rattle.data_types.specs.promise.Groups.{distinct}
use Rattle.list_cols.specs.promise.Nested.{rows_with}

-- the distinct values of a column
abbrev pub keys_of : ℕ → List Row → List Value
keys_of column rows = distinct (column_values column rows)

-- for each of them, the values of its rows in another column
abbrev pub lists_of : ℕ → List Row → ℕ → List (List Value)
lists_of column rows k = map (λ key. column_values k (rows_with column key rows)) (keys_of column rows)

-- ---- a column of the table, and its kinds

abbrev pub nested_column : ℕ → List DataType → List Row → ℕ → ArrayTree
nested_column column types rows k =
    let kind = get_or types k kinds.Null in
    if k == column then column_tree kind (keys_of column rows) None else list_tree kind (lists_of column rows k)

-- ---- the table of rows with columns of these types

abbrev pub nested_table : ℕ → List DataType → List Row → ArrayTree
nested_table column types rows = table_tree (length (keys_of column rows)) (each (nested_column column types rows) 0 (length types))

-- ---- of a chunk

-- the blocks of the new array, one for each buffer: what it costs but for its nodes, as many as twice its columns
abbrev pub nested_blocks : ℕ → KindTree → ArrayTree → ℕ
nested_blocks column typed array = Cost (nested_table column (map kind_in (children_of typed)) (rows_of typed array)) - 2 * length (children_of typed)
