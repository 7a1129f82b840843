-- A table whose columns are made of values: its columns, its rows and its chunk, and what the values meet where all of it is lawful.
use Rattle.std.specs.Prelude.{◌≡◌, ◌≢◌, ◌≤◌, ◌^◌, ℕ, true, List, length, map, Option, None, Some, All}
use Rattle.data_types.specs.ColumnForms.{IsColumnKind}
use Rattle.data_types.specs.promise.Table.{Column, Row, Kind, Flat, Dict}
use Rattle.data_types.specs.promise.Value.{Null}
use Rattle.data_types.specs.declared.kind.DataType.{DataType}
use Rattle.data_types.specs.declared.kind.DataType.TheVariants as kinds
use Rattle.raw_array.specs.promise.Members.{ArrayTree}
use Rattle.arr_export.specs.promise.ArrayTrees.{table_tree}
use Rattle.arr_export.specs.ArrayTrees.{IsPlaceOf, rows_of_values}
use Rattle.arr_export.specs.promise.ValueColumns.{TypedValues, ValueColumn}
use Rattle.arr_export.specs.ValueColumns.{items_of, tree_of}
use Rattle.stream_face.specs.Lawful.{AreValues, HasBytes}

-- a column: its name, and its values or, where it has a dictionary, the places of its values there
pub record NamedValues : Type 0 where
  pub name : List ℕ
  pub values : ValueColumn

-- ---- the table

abbrev pub kind_by : TypedValues → Option TypedValues → Kind
kind_by own None = Flat own.kind
kind_by own (Some entries) = Dict entries.kind

abbrev pub column_with : NamedValues → Column
column_with c = record { name = c.name; kind = kind_by c.values.own c.values.dictionary }

abbrev pub columns_with : List NamedValues → List Column
columns_with columns = map column_with columns

abbrev pub rows_with : ℕ → List NamedValues → List Row
rows_with rows columns = rows_of_values (map (λ c. items_of c.values) columns) rows

abbrev pub chunk_with : ℕ → List NamedValues → ArrayTree
chunk_with rows columns = table_tree rows (map (λ c. tree_of c.values) columns)

-- ---- what the values meet

-- the type of a column's items
abbrev pub item_type : TypedValues → Option TypedValues → DataType
item_type own None = own.kind
item_type own (Some entries) = entries.kind

-- the type of the indices into a dictionary
abbrev pub index_type : DataType
index_type = kinds.Int 32 true

-- texts or bytes, none of them null; each of the column's own values is null or the place of one of them
pub record HasDictionary (own entries : TypedValues) : Type 0 where
  pub index : own.kind ≡ index_type
  pub bytes : HasBytes entries.kind
  pub values : AreValues entries.kind entries.values
  pub full : All (λ value. value ≢ Null) entries.values
  pub few : length entries.values ≤ 2 ^ 30
  pub places : All (IsPlaceOf (length entries.values)) own.values

abbrev pub HasDictionaryIf : TypedValues → Option TypedValues → Type 0
HasDictionaryIf own None = Unit {0}
HasDictionaryIf own (Some entries) = HasDictionary own entries

-- there is an item for each row, null or of the column's type, and they have at most 2^30 bytes
pub record FitsRows (rows : ℕ) (c : NamedValues) : Type 0 where
  pub kind : IsColumnKind (item_type c.values.own c.values.dictionary)
  pub count : length c.values.own.values ≡ rows
  pub items : AreValues (item_type c.values.own c.values.dictionary) (items_of c.values)
  pub dictionary : HasDictionaryIf c.values.own c.values.dictionary
