-- The type, the tree and the items of a column of values, and which ones a table may have.
use Rattle.std.specs.Prelude.{ℕ, ◌≤◌, List, length, map, Option, None, Some, All}
use Rattle.std.specs.Option.{option_map}
use Rattle.data_types.specs.promise.Value.{Value}
use Rattle.raw_array.specs.promise.Members.{ArrayTree}
use Rattle.col_build.specs.Encoding.{Fits}
use Rattle.data_types.specs.promise.KindTrees.{KindTree}
use Rattle.arr_export.specs.promise.ArrayTrees.{column_tree}
use Rattle.arr_export.specs.ArrayTrees.{IsIndexKind, IsPlaceOf, flat_type, looked_up}
use Rattle.arr_export.specs.promise.ValueColumns.{TypedValues, ValueColumn}

abbrev pub plain_type : TypedValues → KindTree
plain_type t = flat_type t.kind None

abbrev pub plain_tree : TypedValues → ArrayTree
plain_tree t = column_tree t.kind t.values None

abbrev pub type_of : ValueColumn → KindTree
type_of c = flat_type c.own.kind (option_map plain_type c.dictionary)

abbrev pub tree_of : ValueColumn → ArrayTree
tree_of c = column_tree c.own.kind c.own.values (option_map plain_tree c.dictionary)

abbrev pub values_by : Option TypedValues → List Value → List Value
values_by None values = values
values_by (Some entries) values = map (looked_up entries.values) values

-- the column's items
abbrev pub items_of : ValueColumn → List Value
items_of c = values_by c.dictionary c.own.values

abbrev pub HasEntries : TypedValues → Option TypedValues → Type 0
HasEntries own None = Unit {0}
HasEntries own (Some entries) = IsIndexKind own.kind × Fits entries.kind entries.values × All (IsPlaceOf (length entries.values)) own.values

-- the values fit their types, there are enough, and each index is a place of the dictionary
pub record IsValueColumn (rows : ℕ) (c : ValueColumn) : Type 0 where
  pub fits : Fits c.own.kind c.own.values
  pub long : rows ≤ length c.own.values
  pub entries : HasEntries c.own c.dictionary
