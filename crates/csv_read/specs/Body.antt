-- Reading the records behind a header into a builder a column.
use Rattle.std.specs.Prelude.{◌≡◌, ◌≤◌, ◌<◌, ◌^◌, ℕ, List, All, length, get_or, Ok, Err}
use Rattle.col_build.specs.Holding.{Holds}
use Rattle.col_build.specs.declared.builder.Builder.{Builder}
-- the values of a column
pub use Rattle.data_types.specs.promise.Parts.{column_values}
use Rattle.data_types.specs.promise.Table.{Column, Kind, Flat, Row}
use Rattle.data_types.specs.promise.Value.{Value}
use Rattle.csv_model.specs.promise.Reading.{Record, body}
use Rattle.csv_read.specs.declared.body.BodyFault.{BodyFault}
use Rattle.csv_read.specs.declared.body.BodyFault.TheVariants as faults

abbrev pub HoldsKind : Builder → Kind → List Value → Type 0
HoldsKind builder (Flat kind) values = Holds builder kind values
HoldsKind builder _ values = ⊥

-- a builder a column, which holds the column's values
pub record HoldEach (builders : List Builder) (columns : List Column) (rows : List Row) : Type 0 where
  pub count : length builders ≡ length columns
  pub each : (j : ℕ) (b : Builder) (c : Column) → j < length columns → HoldsKind (get_or builders j b) (get_or columns j c).kind (column_values j rows)

-- the builders hold these rows, each of them a value for each column
pub record HoldRows (builders : List Builder) (columns : List Column) (rows : List Row) : Type 0 where
  pub held : HoldEach builders columns rows
  pub widths : All (λ row. length row ≡ length columns) rows

-- the builders hold the rows that these records behind the header spell under a mark for null
pub record HoldsBody (mark : List ℕ) (builders : List Builder) (columns : List Column) (records : List Record) : Type 0 where
  pub rows : List Row
  pub spelled : body mark columns records ≡ Ok rows
  pub few : length rows ≤ 2 ^ 30
  pub held : HoldRows builders columns rows

-- the fault is that of the first record that spells no row; out of memory says nothing of the records
abbrev pub IsBodyFault : BodyFault → List ℕ → List Column → List Record → Type 0
IsBodyFault (faults.Row fault) mark columns records = body mark columns records ≡ Err fault
IsBodyFault faults.NoMemory mark columns records = Unit {0}
