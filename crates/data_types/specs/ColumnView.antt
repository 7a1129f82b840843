-- The columns that the code keeps, as columns of a table.
use Rattle.data_types.specs.declared.kind.ColKind.{ColKind, Flat as CodeFlat, Dict as CodeDict, Columns', Row_of-ColumnType, end_of-ColumnType}
use Rattle.data_types.specs.declared.kind.ColKind.{more_of-ColumnType}
use Rattle.data_types.specs.declared.kind.ColumnType.{ColumnType}
use Rattle.data_types.specs.promise.Table.{Kind, Flat, Dict, Columns, Members, no_members, more_members, Column}

abbrev mutual
  pub kind_of : ColKind → Kind
  kind_of (CodeFlat d) = Flat d
  kind_of (CodeDict d) = Dict d
  kind_of (Columns' shape row) = Columns (members_of row)

  pub members_of : {m : _} → Row_of-ColumnType m → Members
  members_of end_of-ColumnType = no_members
  members_of (more_of-ColumnType name kind rest) = more_members name (kind_of kind) (members_of rest)

abbrev pub column_of : ColumnType → Column
column_of column = record { name = column.name; kind = kind_of column.kind }
