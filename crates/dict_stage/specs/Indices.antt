-- The indices of values into their dictionary, and the array of both ("Arrow Columnar Format", "Dictionary-encoded Layout").
use Rattle.std.specs.Prelude.{◌≡◌, ℕ, pos, Bool, true, false, List, [], map, get_or, None, Some}
use Rattle.std.specs.List.{position_or_len}
use Rattle.std.specs.Str.{bytes_eq}
use Rattle.data_types.specs.promise.Parts.{column_values}
use Rattle.data_types.specs.promise.Table.{Column, Row, Kind, Flat, Dict, Columns}
use Rattle.data_types.specs.promise.Value.{Value, Null, Whole, Bytes}
use Rattle.data_types.specs.declared.kind.DataType.{DataType}
use Rattle.data_types.specs.declared.kind.DataType.TheVariants as kinds
use Rattle.tree_model.specs.promise.TreeData.{Released}
use Rattle.tree_model.specs.promise.TreeParts.{child_at}
use Rattle.raw_array.specs.promise.Members.{ArrayTree}
use Rattle.arr_export.specs.promise.ArrayTrees.{column_tree}
use Rattle.stage_model.specs.promise.Dictionary.{Dictionary}
use Rattle.stage_model.specs.Typing.{column_at}

-- the value is this text
abbrev pub is_text : List ℕ → Value → Bool
is_text text (Bytes bytes) = bytes_eq bytes text
is_text text _ = false

-- where the text is among the entries; a null has no index
abbrev pub index_in : List Value → Value → Value
index_in entries (Bytes text) = Whole (pos (position_or_len (is_text text) entries))
index_in entries _ = Null

-- the indices of values into their dictionary
abbrev pub Indices : List Value → List Value
Indices values = map (index_in (Dictionary values)) values

-- indices are signed numbers of 32 bits
abbrev pub index_type : DataType
index_type = kinds.Int 32 true

-- the array of a new column: of values as they are, or of their indices into a dictionary of the distinct ones
abbrev pub recoded_tree : Kind → List Value → ArrayTree
recoded_tree (Flat type) values = column_tree type values None
recoded_tree (Dict type) values = column_tree index_type (Indices values) (Some (column_tree type (Dictionary values) None))
recoded_tree (Columns _) values = Released

-- the chunk of the first table has this column made anew of the table's values: with a dictionary it is exactly their own
abbrev pub HasColumn : ℕ → List Column → List (List Row) → ArrayTree → Type 0
HasColumn place columns ahead chunk =
    child_at chunk place ≡ recoded_tree (column_at columns place).kind (column_values place (get_or ahead 0 []))
