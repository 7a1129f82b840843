-- The items of some numbers, moved from a column into a new one over the same dictionary.
use Rattle.std.specs.Prelude.{◌≡◌, ◌+◌, ◌^◌, ◌<◌, ◌≤◌, ℕ, List, length, get_or, All}
use Rattle.std.specs.List.{sum_by}
use Rattle.data_types.specs.ColumnForms.{AreColumnKinds}
use Rattle.data_types.specs.promise.Parts.{column_values}
use Rattle.data_types.specs.promise.Table.{Column, Kind, Row}
use Rattle.tree_model.specs.promise.TreeParts.{child_at, children_of}
use Rattle.tree_model.specs.Tree.{Depth}
use Rattle.unit_pass.specs.promise.Tally.{risen}
use Rattle.unit_pass.specs.Tally.{Tally}
use Rattle.unit_pass.specs.declared.pass.TheConstants.{CHUNK}
use Rattle.raw_array.specs.promise.Members.{ArrayTree, Cost, members_of}
use Rattle.data_types.specs.promise.ColumnKinds.{type_of_columns, type_of_kind}
use Rattle.layout_rules.specs.promise.Layout.{first}
use Rattle.layout_rules.specs.promise.Values.{tree_items}
use Rattle.layout_rules.specs.promise.Walk.{LayoutOk}
use Rattle.stage_model.specs.promise.Traffic.{Moved, blocks_from, kind_blocks, kind_nodes, table_nodes}
use Rattle.stage_model.specs.Traffic.{table_blocks}
use Rattle.stream_face.specs.Lawful.{AreItems, DictsAreFull}
use Rattle.column_fill.specs.Gathered.{values_at}
use Rattle.stage_filter.specs.Kept.{rows_at}
use Rattle.stage_filter.specs.KeptTrees.{kept_columns, kept_struct, kept_tree}
use Rattle.stage_filter.specs.Plain.{most_cost, most_of_columns}

-- ---- what can be moved
-- items of a lawful array of a column, by numbers that are counted from one of them on
pub record CanMove (kind : Kind) (array : ArrayTree) (start : ℕ) (kept : List ℕ) : Type 0 where
  pub kinds : AreColumnKinds kind
  pub ok : LayoutOk (type_of_kind kind) array
  pub full : DictsAreFull kind array
  pub begins : start ≤ tree_items array
  pub inside : All (λ i. start + i < tree_items array) kept
  pub items : AreItems kind (values_at (type_of_kind kind) array start kept)
  pub few : length kept ≤ 2 ^ 30
  pub not_deep : Depth (type_of_kind kind) ≤ 127
  pub small : most_cost kind ≤ CHUNK

-- and rows of a lawful struct of columns
pub record CanMoveRows (columns : List Column) (array : ArrayTree) (start : ℕ) (kept : List ℕ) : Type 0 where
  pub kinds : All (λ c. AreColumnKinds c.kind) columns
  pub ok : LayoutOk (type_of_columns columns) array
  pub full : (k : ℕ) (none : Column) → k < length columns → DictsAreFull (get_or columns k none).kind (child_at array k)
  pub begins : start ≤ tree_items array
  pub inside : All (λ i. start + i < tree_items array) kept
  pub items : (k : ℕ) (none : Column) → k < length columns
      → AreItems (get_or columns k none).kind (column_values k (rows_at (type_of_columns columns) array start kept))
  pub few : length kept ≤ 2 ^ 30
  pub not_deep : Depth (type_of_columns columns) ≤ 127
  pub small : most_of_columns columns ≤ CHUNK

-- ---- what was moved
-- the array of these items was made in the array's place, of its units, blocks and nodes
pub record IsFiltered (kind : Kind) (array : ArrayTree) (start : ℕ) (kept : List ℕ) (made : ArrayTree) (before after : Tally) : Type 0 where
  pub tree_is : made ≡ kept_tree kind array start kept
  pub units : after.units + Cost made ≡ before.units + Cost array
  pub left : before.units ≤ after.units + most_cost kind
  pub blocks : after.blocks ≡ risen before.blocks (kind_blocks Moved kind (values_at (type_of_kind kind) array start kept))
  pub nodes : after.nodes ≡ risen before.nodes (kind_nodes Moved kind)

-- the arrays of the first columns of a struct, over these rows of it
pub record AreFiltered (columns : List Column) (array : ArrayTree) (start : ℕ) (kept : List ℕ) (rows : List Row) (arrays : List ArrayTree)
    (before after : Tally) : Type 0 where
  pub trees_are : arrays ≡ kept_columns columns (children_of array) (first (members_of array) + start) kept
  pub left : before.units ≤ after.units + most_of_columns columns
  pub blocks : after.blocks ≡ risen before.blocks (blocks_from Moved 0 columns rows)
  pub nodes : after.nodes ≡ risen before.nodes (sum_by (λ c. kind_nodes Moved c.kind) columns)

-- the struct of these rows was made in the struct's place
pub record IsFilteredStruct (columns : List Column) (array : ArrayTree) (start : ℕ) (kept : List ℕ) (made : ArrayTree) (before after : Tally) : Type 0 where
  pub tree_is : made ≡ kept_struct columns array start kept
  pub units : after.units + Cost made ≡ before.units + Cost array
  pub left : before.units ≤ after.units + (1 + most_of_columns columns)
  pub blocks : after.blocks ≡ risen before.blocks (table_blocks Moved columns (rows_at (type_of_columns columns) array start kept))
  pub nodes : after.nodes ≡ risen before.nodes (table_nodes Moved columns)
