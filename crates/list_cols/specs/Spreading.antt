-- What the columns of a chunk meet where the lists of one are spread out, and the columns that are made.
use Rattle.std.specs.Prelude.{◌≡◌, ◌<◌, ℕ, List, length, get_or, None}
use Rattle.data_types.specs.promise.Parts.{column_values}
use Rattle.data_types.specs.declared.kind.DataType.TheVariants as kinds
use Rattle.data_types.specs.promise.Value.{Value, Null}
use Rattle.tree_model.specs.promise.TreeParts.{children_of}
use Rattle.raw_array.specs.promise.Members.{ArrayTree, members_of}
use Rattle.col_build.specs.Encoding.{Fits}
use Rattle.data_types.specs.promise.KindTrees.{KindTree}
use Rattle.layout_rules.specs.promise.Layout.{first}
use Rattle.layout_rules.specs.promise.Values.{row_items, rows_of, tree_items}
use Rattle.layout_rules.specs.promise.Walk.{ChunkOk}
use Rattle.arr_export.specs.promise.ArrayTrees.{column_tree}
use Rattle.column_fill.specs.declared.runs.Run.{Run}
use Rattle.list_cols.specs.promise.Exploded.{exploded_kinds}
use Rattle.list_cols.specs.promise.Faults.{explodes, first_wrong}
use Rattle.list_cols.specs.Listed.{list_runs}
use Rattle.list_cols.specs.promise.Nested.{Explode}

-- the list of a row
abbrev pub list_at : ℕ → KindTree → ArrayTree → ℕ → Value
list_at column typed array i = get_or (row_items typed array i) column Null

-- the runs of a chunk's rows
abbrev pub chunk_runs : ℕ → KindTree → ArrayTree → List Run
chunk_runs column typed array = list_runs (first (members_of array)) (list_at column typed array) (tree_items array)

-- a lawful chunk, whose columns are what they must be
pub record CanSpread (column : ℕ) (typed : KindTree) (array : ArrayTree) : Type 0 where
  pub inside : column < length (children_of typed)
  pub fitting : first_wrong (explodes column) 0 (children_of typed) ≡ None
  pub chunk : ChunkOk typed array

-- the values of a column of the new rows
abbrev pub spread_values : ℕ → KindTree → ArrayTree → ℕ → List Value
spread_values column typed array k = column_values k (Explode column (rows_of typed array))

-- they have an encoding
abbrev pub FitsAt : ℕ → KindTree → ArrayTree → ℕ → Type 0
FitsAt column typed array k = Fits (get_or (exploded_kinds column typed) k kinds.Null) (spread_values column typed array k)

-- and so have those of all columns
abbrev pub AllFit : ℕ → KindTree → ArrayTree → Type 0
AllFit column typed array = (k : ℕ) → k < length (children_of typed) → FitsAt column typed array k

-- the column of them
abbrev pub spread_column : ℕ → KindTree → ArrayTree → ℕ → ArrayTree
spread_column column typed array k = column_tree (get_or (exploded_kinds column typed) k kinds.Null) (spread_values column typed array k) None
