use Rattle.std.proofs.Common.{◌≡◌, ◌+◌, ◌*◌, map, take}
use Rattle.data_types.specs.ColumnView.{column_of, kind_of}
use Rattle.data_types.proofs.ColumnCopies.{columns_size, kind_size}
use Rattle.data_types.proofs.copied.+copy.Given as goal

abbrev pub decreases-clone_columns : goal.decreases-clone_columns
decreases-clone_columns a = 3 * columns_size a.columns.now

abbrev pub decreases-clone_column : goal.decreases-clone_column
decreases-clone_column a = 3 * kind_size (kind_of a.column.now.kind) + 2

abbrev pub decreases-column_kind : goal.decreases-column_kind
decreases-column_kind a = 3 * kind_size (kind_of a.kind.now) + 1

abbrev pub invariant-clone_columns-loop-column : goal.invariant-clone_columns-loop-column
invariant-clone_columns-loop-column l = map column_of l.copy.items ≡ map column_of (take l.column-index l.columns)
