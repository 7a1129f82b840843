-- The row of totals, as columns of one value.
use Rattle.std.specs.Prelude.{◌≡◌, ℕ, ◌<◌, List, [], length, get_or, None}
use Rattle.col_build.specs.Encoding.{most_values, push_fault}
use Rattle.col_build.specs.Holding.{Holds}
use Rattle.col_build.specs.declared.builder.Builder.{Builder}
use Rattle.data_types.specs.ColumnForms.{IsColumnKind}
use Rattle.data_types.specs.FieldText.{IsValueOf}
use Rattle.data_types.specs.promise.Table.{Column, Kind, Flat, Row}
use Rattle.data_types.specs.promise.Value.{Value, Null, bytes_of}
use Rattle.data_types.specs.declared.kind.DataType.{DataType}

-- a kind of plain values
abbrev pub IsFlat : Kind → Type 0
IsFlat (Flat kind) = Unit {0}
IsFlat _ = ⊥

-- a number, or null, of a column of plain values
pub record ValueFits (column : Column) (value : Value) : Type 0 where
  pub kind : DataType
  pub is : column.kind ≡ Flat kind
  pub ok : IsColumnKind kind
  pub value_of : IsValueOf kind value
  pub no_bytes : bytes_of value ≡ []

-- of each column
pub record RowFits (columns : List Column) (row : Row) : Type 0 where
  pub width : length row ≡ length columns
  pub each : (k : ℕ) (none : Column) → k < length columns → ValueFits (get_or columns k none) (get_or row k Null)

-- the builder takes the value
pub record Takes (builder : Builder) (value : Value) : Type 0 where
  pub kind : DataType
  pub values : List Value
  pub holds : Holds builder kind values
  pub few : length values < most_values
  pub taken : push_fault kind values value ≡ None
