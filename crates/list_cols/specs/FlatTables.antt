-- A table of flat columns as an array, and its kinds.
use Rattle.std.specs.Prelude.{List, length, map, None}
use Rattle.data_types.specs.declared.kind.DataType.{DataType}
use Rattle.data_types.specs.promise.Table.{Row}
use Rattle.raw_array.specs.promise.Members.{ArrayTree}
use Rattle.data_types.specs.ColumnKinds.{table_type}
use Rattle.data_types.specs.promise.KindTrees.{KindTree}
use Rattle.arr_export.specs.promise.ArrayTrees.{table_tree}
use Rattle.arr_export.specs.ArrayTrees.{flat_type}
use Rattle.arr_export.specs.ValueColumns.{tree_of}
use Rattle.list_cols.specs.promise.FlatTables.{columns_from}
use Rattle.data_types.specs.promise.Value.{Value}
use Rattle.arr_export.specs.promise.ValueColumns.{ValueColumn}

-- the table of rows with columns of these types
abbrev pub flat_table : List DataType → List Row → ArrayTree
flat_table kinds rows = table_tree (length rows) (map tree_of (columns_from 0 kinds rows))

-- and its kinds
abbrev pub flat_table_type : List DataType → KindTree
flat_table_type kinds = table_type (map (λ kind. flat_type kind None) kinds)

-- a column of values of a type, without a dictionary
abbrev pub flat_column : DataType → List Value → ValueColumn
flat_column kind values = record { own = record { kind = kind; values = values }; dictionary = None }
