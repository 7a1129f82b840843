-- A column of lists as an array tree, between offsets of 32 bits ("Arrow Columnar Format", "Variable-size List Layout").
use Rattle.std.specs.Prelude.{ℕ, pos, false, List, [], ◌∷◌, length, map, None, Some}
use Rattle.std.specs.List.{flat_map}
use Rattle.data_types.specs.promise.Packed.{le_bytes, offset_width}
use Rattle.data_types.specs.declared.kind.DataType.{DataType}
use Rattle.data_types.specs.promise.Value.{Value}
use Rattle.tree_model.specs.promise.TreeData.{Live, trees, absent}
use Rattle.raw_array.specs.promise.Members.{ArrayMembers, ArrayTree}
use Rattle.raw_array.specs.declared.array.ReleaseKind.TheVariants.{Exported}
use Rattle.arr_export.specs.promise.ArrayTrees.{column_tree, made}
use Rattle.data_types.specs.promise.Groups.{sums_from}

-- this many lists, none of them null
abbrev pub list_members : ℕ → List ℕ → ArrayMembers
list_members count offsets = record {
  length = pos count;
  null_count = pos 0;
  offset = pos 0;
  buffers = None ∷ Some (made offsets) ∷ [];
  kind = Exported;
}

-- the values of all lists, one list behind the other, and over them the offsets: where each list begins, and where the last one ends
abbrev pub list_tree : DataType → List (List Value) → ArrayTree
list_tree kind lists =
    let lengths = map (λ list. length list) lists in
    Live (list_members (length lists) (flat_map (le_bytes (offset_width false)) (sums_from 0 lengths)))
    (trees (column_tree kind (flat_map (λ list. list) lists) None ∷ [])) absent
