-- The array of a chunk's rows, of which the lists in one column are spread out.
use Rattle.std.specs.Prelude.{ℕ, ◌+◌, List, [], ◌∷◌, map}
use Rattle.std.proofs.Common.{set}
use Rattle.data_types.specs.declared.kind.DataType.{DataType}
use Rattle.tree_model.specs.promise.TreeParts.{child_at, children_of}
use Rattle.raw_array.specs.promise.Members.{ArrayTree}
use Rattle.col_build.specs.promise.Finished.{blocks_of}
use Rattle.data_types.specs.promise.KindTrees.{KindTree, kind_in}
use Rattle.layout_rules.specs.promise.Values.{rows_of}
use Rattle.arr_export.specs.promise.ValueColumns.{ValueColumn}
use Rattle.list_cols.specs.promise.FlatTables.{columns_from}
use Rattle.list_cols.specs.promise.Nested.{Explode}

-- the types of the columns: in place of the lists' that of their items
abbrev pub exploded_kinds : ℕ → KindTree → List DataType
exploded_kinds column typed = set (map kind_in (children_of typed)) column (kind_in (child_at (child_at typed column) 0))

-- the blocks of columns, one for each buffer
abbrev pub blocks_in : List ValueColumn → ℕ
blocks_in [] = 0
blocks_in (c ∷ columns) = blocks_of c.own.kind c.own.values + blocks_in columns

-- the blocks of the new columns
abbrev pub exploded_blocks : ℕ → KindTree → ArrayTree → ℕ
exploded_blocks column typed array = blocks_in (columns_from 0 (exploded_kinds column typed) (Explode column (rows_of typed array)))
