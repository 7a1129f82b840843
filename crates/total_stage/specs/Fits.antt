-- What totals ask of the columns before them.
use Rattle.std.specs.Prelude.{◌≡◌, ℕ, ◌*◌, ◌≤◌, true, List, length, map}
use Rattle.std.specs.List.{flat_map, list_all}
use Rattle.data_types.specs.ColumnView.{column_of}
use Rattle.data_types.specs.promise.Parts.{picked}
use Rattle.data_types.specs.Parts.{AreWithin}
use Rattle.data_types.specs.promise.Table.{Column}
use Rattle.data_types.specs.declared.kind.ColumnType.{ColumnType}
use Rattle.stage_model.specs.promise.Typing.{is_summed, no_column, totals_columns}

-- numbers of these columns, each of which is of whole numbers or of decimals
pub record CanTotal (picks : List ℕ) (before : List Column) : Type 0 where
  pub within : AreWithin (length before) picks
  pub summed : list_all (λ c. is_summed c.kind) (picked no_column picks before) ≡ true

-- and the columns that are kept are those of their totals, of which there are few
pub record TotalsFits (picks : List ℕ) (kept : List ColumnType) (before : List Column) : Type 0 where
  pub can : CanTotal picks before
  pub columns : map column_of kept ≡ flat_map totals_columns (picked no_column picks before)
  pub few : 4 * length picks ≤ 4096
