-- What a filter asks of the columns before it, and of a chunk.
use Rattle.std.specs.Prelude.{◌≡◌, ◌<◌, ◌≤◌, ◌^◌, ℕ, List, length, map, get_or, All}
use Rattle.data_types.specs.ColumnForms.{AreColumnKinds}
use Rattle.data_types.specs.ColumnView.{column_of}
use Rattle.data_types.specs.promise.Table.{Column, Row}
use Rattle.data_types.specs.declared.kind.ColumnType.{ColumnType}
use Rattle.tree_model.specs.promise.TreeParts.{child_at}
use Rattle.tree_model.specs.Tree.{Depth}
use Rattle.unit_pass.specs.declared.pass.TheConstants.{CHUNK}
use Rattle.raw_array.specs.promise.Members.{ArrayTree}
use Rattle.data_types.specs.promise.ColumnKinds.{type_of_columns}
use Rattle.data_types.specs.promise.KindTrees.{KindTree}
use Rattle.layout_rules.specs.promise.Values.{rows_of, tree_items}
use Rattle.layout_rules.specs.promise.Walk.{ChunkOk}
use Rattle.arr_import.specs.Window.{child_window, whole}
use Rattle.stage_model.specs.promise.Stages.{rows_after}
use Rattle.stage_model.specs.declared.stage.Const.{Const}
use Rattle.stage_model.specs.declared.stage.Step.TheVariants as steps
use Rattle.stage_model.specs.declared.stage.Test.{Test}
use Rattle.stages.specs.Structs.{column_structs, most_structs}
use Rattle.stream_face.specs.Lawful.{DictsAreFull, IsTable}
use Rattle.stage_filter.specs.Kept.{kept_numbers}
use Rattle.stage_filter.specs.Plain.{most_of_columns}

-- the column is one of those before, which are kept as they are, and are in few structs
pub record FilterFits (column : ℕ) (kept : List ColumnType) (before : List Column) : Type 0 where
  pub within : column < length before
  pub columns : map column_of kept ≡ before
  pub few : column_structs before ≤ most_structs

-- a chunk of columns, whose items are of their kinds, and whose dictionaries have no null
pub record CanFilter (column : ℕ) (columns : List Column) (chunk : ArrayTree) : Type 0 where
  pub within : column < length columns
  pub kinds : All (λ c. AreColumnKinds c.kind) columns
  pub not_deep : Depth (type_of_columns columns) ≤ 127
  pub ok : ChunkOk (type_of_columns columns) chunk
  pub full : (k : ℕ) (none : Column) → k < length columns → DictsAreFull (get_or columns k none).kind (child_at chunk k)
  pub table : IsTable columns (rows_of (type_of_columns columns) chunk)
  pub small : most_of_columns columns ≤ CHUNK
  pub few : length (rows_of (type_of_columns columns) chunk) ≤ 2 ^ 30

-- the rows of a chunk of these columns that pass
abbrev pub passing_rows : ℕ → Test → Const → List Column → ArrayTree → List Row
passing_rows column test constant columns chunk = rows_after (steps.Filter column test constant) (rows_of (type_of_columns columns) chunk)

-- and their numbers
abbrev pub passing_numbers : ℕ → Test → Const → KindTree → ArrayTree → List ℕ
passing_numbers column test constant typed chunk = kept_numbers test constant (child_window (whole typed chunk) column) 0 (tree_items chunk)
