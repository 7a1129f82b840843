-- The array of a chunk's rows, of which the lists in one column are spread out.
use Rattle.std.specs.Prelude.{ℕ, List}
use Rattle.raw_array.specs.promise.Members.{ArrayTree}
use Rattle.data_types.specs.promise.KindTrees.{KindTree, kind_in}
use Rattle.layout_rules.specs.promise.Values.{rows_of}
use Rattle.list_cols.specs.FlatTables.{flat_table, flat_table_type}
use Rattle.list_cols.specs.promise.Nested.{Explode}
use Rattle.list_cols.specs.promise.Exploded.{exploded_kinds}
use Rattle.data_types.specs.declared.kind.DataType.{DataType}
use Rattle.tree_model.specs.promise.TreeParts.{child_at}
use Rattle.arr_export.specs.promise.ValueColumns.{ValueColumn}
use Rattle.list_cols.specs.promise.FlatTables.{columns_from}

abbrev pub exploded_type : ℕ → KindTree → KindTree
exploded_type column typed = flat_table_type (exploded_kinds column typed)

-- new columns, of the rows whose lists are spread out
abbrev pub exploded_array : ℕ → KindTree → ArrayTree → ArrayTree
exploded_array column typed array = flat_table (exploded_kinds column typed) (Explode column (rows_of typed array))

-- ---- the parts of what is promised

-- the type of a list's items
abbrev pub item_kind : KindTree → DataType
item_kind list = kind_in (child_at list 0)

-- the new columns
abbrev pub exploded_columns : ℕ → KindTree → ArrayTree → List ValueColumn
exploded_columns column typed array = columns_from 0 (exploded_kinds column typed) (Explode column (rows_of typed array))
