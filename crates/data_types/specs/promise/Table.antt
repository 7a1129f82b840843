-- Columns and tables: a table is a list of columns, each with a name and a kind, and a list of rows, each with a value
-- for each column.
use Rattle.std.specs.Prelude.{ℕ, List}
use Rattle.data_types.specs.declared.kind.DataType.{DataType}
use Rattle.data_types.specs.promise.Value.{Value}

mutual
  -- what a column holds: values of a type, the same by a dictionary, or a struct of columns
  pub data Kind : Type 0 where
    Flat : DataType → Kind
    Dict : DataType → Kind
    Columns : Members → Kind

  -- the columns of a struct, each a name and a kind
  pub data Members : Type 0 where
    no_members : Members
    more_members : List ℕ → Kind → Members → Members

pub record Column : Type 0 where
  pub name : List ℕ
  pub kind : Kind

abbrev pub Row : Type 0
Row = List Value

pub record Table : Type 0 where
  pub columns : List Column
  pub rows : List Row
