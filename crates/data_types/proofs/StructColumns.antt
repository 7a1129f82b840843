-- A struct's columns as a list.
use Rattle.std.proofs.Common.{◌≡◌, map, refl, ap}
use mathlib.Core.Former.{Count}
use Rattle.data_types.specs.declared.kind.ColKind.{Row_of-ColumnType, end_of-ColumnType, more_of-ColumnType, items-the_row-ColumnType}
use Rattle.data_types.specs.promise.Table.{more_members}
use Rattle.data_types.specs.promise.ColumnView.{members}
use Rattle.data_types.specs.ColumnView.{kind_of, members_of, column_of}

pub row_is : (m : Count) (row : Row_of-ColumnType m) → members_of row ≡ members (map column_of (items-the_row-ColumnType m row))
row_is m end_of-ColumnType = refl
row_is m (more_of-ColumnType name kind rest) = ap (more_members name (kind_of kind)) (row_is _ rest)
