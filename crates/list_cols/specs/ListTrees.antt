-- A column of lists as an array tree, between offsets of 32 bits ("Arrow Columnar Format", "Variable-size List Layout").
use Rattle.std.specs.Prelude.{ℕ, ◌<◌, ◌≤◌, false, List, [], ◌∷◌, length, map, None}
use Rattle.data_types.specs.declared.kind.DataType.{DataType}
use Rattle.data_types.specs.declared.kind.DataType.TheVariants as kinds
use Rattle.data_types.specs.promise.Value.{Value, Items, values}
use Rattle.tree_model.specs.promise.TreeData.{Live, trees, absent}
use Rattle.col_build.specs.promise.Encoding.{narrow_limit}
use Rattle.col_build.specs.Encoding.{Fits}
use Rattle.data_types.specs.promise.KindTrees.{KindTree}
use Rattle.arr_export.specs.ArrayTrees.{flat_type}
use Rattle.layout_rules.specs.promise.Rules.{window_limit}
use Rattle.std.specs.List.{flat_map}
use Rattle.data_types.specs.promise.Packed.{le_bytes, offset_width}
use Rattle.data_types.specs.promise.Groups.{sums_from}

-- the offsets of lists of these lengths one behind the other: where each begins, and where the last one ends
abbrev pub list_offsets : List ℕ → List ℕ
list_offsets counts = flat_map (le_bytes (offset_width false)) (sums_from 0 counts)

abbrev pub list_lengths : List (List Value) → List ℕ
list_lengths lists = map (λ list. length list) lists

-- the values of all lists, one list behind the other
abbrev pub joined : List (List Value) → List Value
joined lists = flat_map (λ list. list) lists

-- lists of values of a type
abbrev pub list_kind : DataType → KindTree
list_kind kind = Live (kinds.List false) (trees (flat_type kind None ∷ [])) absent

-- a list as a value
abbrev pub list_value : List Value → Value
list_value list = Items (values list)

-- the values have an encoding, and offsets of 32 bits reach them
pub record FitLists (kind : DataType) (lists : List (List Value)) : Type 0 where
  pub values : Fits kind (joined lists)
  pub reached : length (joined lists) < narrow_limit
  pub few : length lists ≤ window_limit
