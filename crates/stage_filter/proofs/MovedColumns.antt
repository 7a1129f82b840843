-- The array of a finished column is made of what its traffic says.
use Rattle.std.proofs.Common.{◌≡◌, ◌∙◌, ◌≤◌, ◌+◌, ℕ, List, Option, None, Some, ap, arith}
use Rattle.std.proofs.lemmas.List.{length-map}
use Rattle.data_types.specs.promise.Table.{Flat, Dict}
use Rattle.data_types.specs.declared.kind.DataType.{DataType}
use Rattle.tree_model.specs.Tree.{dictionary_at}
use Rattle.unit_pass.specs.promise.Tally.{risen}
use Rattle.unit_pass.specs.Tally.{Tally}
use Rattle.raw_array.specs.promise.Members.{ArrayTree, Cost}
use Rattle.col_build.specs.promise.Finished.{blocks_of}
use Rattle.data_types.specs.promise.ColumnKinds.{type_of_kind}
use Rattle.layout_rules.specs.promise.Values.{value_at}
use Rattle.arr_export.specs.promise.ArrayTrees.{column_tree}
use Rattle.stage_model.specs.promise.Traffic.{Moved, kind_blocks}
use Rattle.column_fill.proofs.ColumnBlocks.{blocks-are}
use Rattle.column_fill.proofs.ColumnCosts.{column-cost, few-blocks}
use Rattle.column_fill.proofs.ValuesTaken.{values-fit}
use Rattle.column_fill.specs.Gathered.{CanGather, values_at}
use Rattle.stage_filter.specs.KeptTrees.{index_type, indices_at}
use Rattle.stage_filter.specs.Moving.{CanMove, IsFiltered}
use Rattle.stage_filter.proofs.IndexedItems.{HasDictionary, blocks-of-indices}

pub can-gather : (kind : DataType) (array : ArrayTree) (start : ℕ) (kept : List ℕ) → CanMove (Flat kind) array start kept
    → CanGather kind array start kept
can-gather kind array start kept can =
    let values = values_at (type_of_kind (Flat kind)) array start kept in
    let many = length-map kept (λ i. value_at (type_of_kind (Flat kind)) array (start + i)) in
    record {
      ok = can.ok;
      inside = can.inside;
      items = values-fit kind values can.kinds can.items (omega (arith, many, can.few));
    }

pub moved-flat : (kind : DataType) (array : ArrayTree) (start : ℕ) (kept : List ℕ) (made : ArrayTree) (before middle after : Tally)
    → CanMove (Flat kind) array start kept → made ≡ column_tree kind (values_at (type_of_kind (Flat kind)) array start kept) None
    → middle.units ≡ before.units + Cost array → middle.blocks ≡ before.blocks → middle.nodes ≡ before.nodes
    → after.units + (1 + blocks_of kind (values_at (type_of_kind (Flat kind)) array start kept)) ≡ middle.units
    → after.blocks ≡ risen middle.blocks (blocks_of kind (values_at (type_of_kind (Flat kind)) array start kept)) → after.nodes ≡ risen middle.nodes 1
    → IsFiltered (Flat kind) array start kept made before after
moved-flat kind array start kept made before middle after can is ended same_blocks same_nodes units blocks nodes =
    let values = values_at (type_of_kind (Flat kind)) array start kept in
    let cost = ap Cost is in
    record {
      tree_is = is;
      units = omega (arith, cost, column-cost kind values None, units, ended);
      left = omega (arith, few-blocks kind values, units, ended);
      blocks = blocks ∙ (λ i. risen (same_blocks i) (blocks-are kind values can.kinds can.items.0 i));
      nodes = nodes ∙ ap (λ n. risen n 1) same_nodes;
    }

pub moved-dict : (kind : DataType) (array : ArrayTree) (start : ℕ) (kept : List ℕ) (made dictionary : ArrayTree) (before middle after : Tally)
    → CanMove (Dict kind) array start kept → HasDictionary kind array → dictionary ≡ dictionary_at array
    → made ≡ column_tree index_type (indices_at array start kept) (Some dictionary)
    → middle.units + Cost dictionary ≡ before.units + Cost array → before.units + 1 ≤ middle.units
    → middle.blocks ≡ before.blocks → middle.nodes ≡ before.nodes
    → after.units + (1 + blocks_of index_type (indices_at array start kept)) ≡ middle.units
    → after.blocks ≡ risen middle.blocks (blocks_of index_type (indices_at array start kept)) → after.nodes ≡ risen middle.nodes 1
    → IsFiltered (Dict kind) array start kept made before after
moved-dict kind array start kept made dictionary before middle after can has own is taken more same_blocks same_nodes units blocks nodes =
    let indices = indices_at array start kept in
    let cost = ap Cost is in
    let all = blocks-of-indices kind array start kept has can.inside can.full in
    let traffic : blocks_of index_type indices ≡ kind_blocks Moved (Dict kind) (values_at (type_of_kind (Dict kind)) array start kept) =
    omega (arith, all) in
    record {
      tree_is = is ∙ ap (λ (d : ArrayTree). column_tree index_type indices (Some d)) own;
      units = omega (arith, cost, column-cost index_type indices (Some dictionary), units, taken);
      left = omega (arith, few-blocks index_type indices, units, more);
      blocks = blocks ∙ (λ i. risen (same_blocks i) (traffic i));
      nodes = nodes ∙ ap (λ n. risen n 1) same_nodes;
    }
