-- Columns and rows that are picked.
use Rattle.std.specs.Prelude.{◌≡◌, ℕ, List, length, map}
use Rattle.data_types.specs.declared.kind.ColumnType.{ColumnType}
use Rattle.data_types.specs.ColumnView.{column_of}
use Rattle.data_types.specs.promise.Parts.{picked}
use Rattle.data_types.specs.Parts.{AreWithin}
use Rattle.data_types.specs.promise.Table.{Column, Row}
use Rattle.data_types.specs.promise.Value.{Null}
use Rattle.arr_move.specs.TreeActs.{Distinct}
-- stands for a column that isn't there
pub use Rattle.stage_model.specs.promise.Typing.{no_column}

abbrev pub picked_columns : List ℕ → List Column → List Column
picked_columns picks columns = picked no_column picks columns

abbrev pub picked_rows : List ℕ → List Row → List Row
picked_rows picks rows = map (picked Null picks) rows

-- different numbers of these columns; and the columns that are kept are those that are picked
pub record PickFits (picks : List ℕ) (kept : List ColumnType) (before : List Column) : Type 0 where
  pub distinct : Distinct picks
  pub within : AreWithin (length before) picks
  pub columns : map column_of kept ≡ picked_columns picks before
