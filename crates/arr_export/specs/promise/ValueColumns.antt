-- Columns that are made of values, with their types and their trees.
use Rattle.std.specs.Prelude.{List, Option}
use Rattle.data_types.specs.declared.kind.DataType.{DataType}
use Rattle.data_types.specs.promise.Value.{Value}

-- a type, and values of it
pub record TypedValues : Type 0 where
  pub kind : DataType
  pub values : List Value

-- a column of values, or of indices into a dictionary of values
pub record ValueColumn : Type 0 where
  pub own : TypedValues
  pub dictionary : Option TypedValues
