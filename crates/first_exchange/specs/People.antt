-- The table that is handed over: three people, of whom one has no id.
use Rattle.std.specs.Prelude.{pos, true, false, List, [], ◌∷◌, codes}
use Rattle.data_types.specs.promise.Table.{Column, Flat}
use Rattle.data_types.specs.promise.Value.{Null, Whole, Bytes}
use Rattle.data_types.specs.declared.kind.DataType.{DataType}
use Rattle.data_types.specs.declared.kind.DataType.TheVariants.{Int, Utf8}
use Rattle.raw_array.specs.promise.Members.{ArrayTree}
use Rattle.arr_export.specs.promise.ArrayTrees.{table_tree}
use Rattle.arr_export.specs.promise.ValueColumns.{TypedValues}
use Rattle.arr_export.specs.ValueColumns.{plain_tree}

abbrev pub id_type : DataType
id_type = Int 32 true

abbrev pub name_type : DataType
name_type = Utf8 false

unfoldable pub ids : TypedValues
ids = record { kind = id_type; values = Whole (pos 1) ∷ Null ∷ Whole (pos 3) ∷ [] }

unfoldable pub names : TypedValues
names = record { kind = name_type; values = Bytes (codes "Ada") ∷ Bytes (codes "Emmy") ∷ Bytes (codes "Grace") ∷ [] }

abbrev pub columns : List Column
columns = record { name = codes "id"; kind = Flat id_type } ∷ record { name = codes "name"; kind = Flat name_type } ∷ []

abbrev pub people : ArrayTree
people = table_tree 3 (plain_tree ids ∷ plain_tree names ∷ [])
