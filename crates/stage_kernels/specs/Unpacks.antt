-- A struct column that is unpacked: its columns take its place.
use Rattle.std.specs.Prelude.{◌≡◌, ◌<◌, ◌≤◌, ℕ, List, length, map}
use Rattle.data_types.specs.declared.kind.ColumnType.{ColumnType}
use Rattle.data_types.specs.ColumnView.{column_of}
use Rattle.data_types.specs.Parts.{unpacked_columns}
use Rattle.data_types.specs.promise.Table.{Column, Columns, Members}
use Rattle.tree_model.specs.promise.TreeParts.{children_of, child_at}
use Rattle.raw_array.specs.promise.Members.{ArrayTree, members_of}
use Rattle.raw_array.specs.Windows.{Window}
use Rattle.data_types.specs.promise.ColumnKinds.{type_of_columns}
use Rattle.layout_rules.specs.promise.Walk.{ChunkOk}
use Rattle.stage_model.specs.Typing.{column_at}
use Rattle.stages.specs.Structs.{column_structs, most_structs}
use Rattle.stages.specs.Children.{ShowsChildren}

-- the column of this number is a struct, and the columns that are kept have its columns in its place
pub record UnpackFits (place : ℕ) (kept : List ColumnType) (before : List Column) : Type 0 where
  pub inside : place < length before
  pub fields : Members
  pub is_struct : (column_at before place).kind ≡ Columns fields
  pub columns : map column_of kept ≡ unpacked_columns place fields before
  pub few_structs : column_structs before ≤ most_structs

-- a chunk whose column at this place is a struct
pub record HasStruct (place : ℕ) (chunk : ArrayTree) : Type 0 where
  pub columns : List Column
  pub fields : Members
  pub ok : ChunkOk (type_of_columns columns) chunk
  pub inside : place < length columns
  pub is_struct : (column_at columns place).kind ≡ Columns fields

-- an array that shows its children, and so does the child at a place, cut to what the array shows
pub record ShowsInner (place : ℕ) (t : ArrayTree) : Type 0 where
  pub outer : ShowsChildren t
  pub inside : place < length (children_of t)
  pub inner : ShowsChildren (Window (child_at t place) (members_of t).offset (members_of t).length)
