-- The laws of the crates below that the proofs cite.
use Rattle.std.proofs.Common.{◌≡◌, ◌≤◌, ◌^◌, ℕ, List, length, map, All, None, Some}
use Rattle.data_types.specs.promise.Value.{Value}
use Rattle.data_types.specs.declared.kind.DataType.{DataType}
use Rattle.tree_model.specs.promise.TreeParts.{IsLive}
use Rattle.raw_array.specs.promise.Members.{ArrayTree}
use Rattle.col_build.specs.Encoding.{Fits}
use Rattle.data_types.specs.ColumnKinds.{table_type}
use Rattle.data_types.specs.promise.KindTrees.{KindTree}
use Rattle.layout_rules.specs.Lawful.{ItemsHold, PartsHold, RootHolds}
use Rattle.layout_rules.specs.promise.Values.{rows_of, tree_items, values_of}
use Rattle.layout_rules.specs.promise.Walk.{ChunkOk, LayoutOk}
use Rattle.arr_export.specs.promise.ArrayTrees.{column_tree, table_tree}
use Rattle.arr_export.specs.ArrayTrees.{AreIndices, AreLawful, HaveValues, flat_type, looked_up, rows_of_values}

-- ---- what is made

abbrev pub FlatLawful : Type 0
FlatLawful = (kind : DataType) (vs : List Value) → Fits kind vs → LayoutOk (flat_type kind None) (column_tree kind vs None)

abbrev pub FlatValued : Type 0
FlatValued = (kind : DataType) (vs : List Value) → Fits kind vs → values_of (flat_type kind None) (column_tree kind vs None) ≡ vs

abbrev pub IndexLawful : Type 0
IndexLawful = (kind : DataType) (vs : List Value) (type : KindTree) (dictionary : ArrayTree) → Fits kind vs → AreIndices kind vs dictionary
    → LayoutOk type dictionary → LayoutOk (flat_type kind (Some type)) (column_tree kind vs (Some dictionary))

abbrev pub IndexValued : Type 0
IndexValued = (kind : DataType) (vs : List Value) (type : KindTree) (dictionary : ArrayTree) → Fits kind vs → AreIndices kind vs dictionary
    → values_of (flat_type kind (Some type)) (column_tree kind vs (Some dictionary)) ≡ map (looked_up (values_of type dictionary)) vs

abbrev pub TableLawful : Type 0
TableLawful = (types : List KindTree) (columns : List ArrayTree) (rows : ℕ) → AreLawful types columns → All (λ column. rows ≤ tree_items column) columns
    → rows ≤ 2 ^ 40 → ChunkOk (table_type types) (table_tree rows columns)

abbrev pub TableValued : Type 0
TableValued = (types : List KindTree) (columns : List ArrayTree) (vs : List (List Value)) (rows : ℕ) → HaveValues types columns vs
    → All (λ items. rows ≤ length items) vs → rows_of (table_type types) (table_tree rows columns) ≡ rows_of_values vs rows

-- ---- what a lawful array has

abbrev pub RootLaw : Type 0
RootLaw = (typed : KindTree) (array : ArrayTree) → IsLive typed → LayoutOk typed array → RootHolds typed array

abbrev pub PartsLaw : Type 0
PartsLaw = (typed : KindTree) (array : ArrayTree) → IsLive typed → LayoutOk typed array → PartsHold typed array

abbrev pub ItemsLaw : Type 0
ItemsLaw = (typed : KindTree) (array : ArrayTree) → IsLive typed → LayoutOk typed array → ItemsHold typed array
