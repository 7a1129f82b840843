-- The items of lists, one list behind the other, and how often each row is there once they are spread out.
use Rattle.std.specs.Prelude.{◌≡◌, ◌+◌, ◌<◌, ◌≤◌, ◌^◌, ℕ, List, ◌++◌, length, Option, None, Some}
use Rattle.std.specs.List.{flat_map}
use Rattle.data_types.specs.promise.Storage.{storage_of}
use Rattle.data_types.specs.promise.Value.{Value}
use Rattle.data_types.specs.declared.kind.DataType.{DataType}
use Rattle.data_types.specs.declared.storage.Storage.{Storage}
use Rattle.col_build.specs.Encoding.{Fits}
use Rattle.col_build.specs.Holding.{Holds}
use Rattle.col_build.specs.declared.builder.Builder.{Builder}
use Rattle.layout_rules.specs.promise.Values.{each}
use Rattle.column_fill.specs.declared.runs.Run.{Run}
use Rattle.list_cols.specs.promise.Nested.{items_in}

-- the items of this many lists
abbrev pub listed : (ℕ → Value) → ℕ → List Value
listed lists count = flat_map items_in (each lists 0 count)

-- an item that is there as often as a list has items
abbrev pub run_of : ℕ → Value → Run
run_of item list = record { item = item; times = length (items_in list) }

-- the runs of this many rows: row i is item `first + i` of each column
abbrev pub list_runs : ℕ → (ℕ → Value) → ℕ → List Run
list_runs first lists count = each (λ i. run_of (first + i) (lists i)) 0 count

-- a number of bytes, and where it is not answered, 2^63 at least
abbrev pub HasTotal : ℕ → Option ℕ → Type 0
HasTotal bytes (Some total) = (total ≡ bytes) × (bytes < 2 ^ 63)
HasTotal bytes None = 2 ^ 63 ≤ bytes

-- the builder takes these values: it holds those before them, and with others behind them they have an encoding
pub record TakesAll (builder : Builder) (storage : Storage) (values : List Value) : Type 0 where
  pub kind : DataType
  pub before : List Value
  pub after : List Value
  pub holds : Holds builder kind before
  pub stored : storage ≡ storage_of kind
  pub items : Fits kind (before ++ (values ++ after))

-- what the old builder held the new one holds, and these values behind it
abbrev pub AddsAll : List Value → Builder → Builder → Type 0
AddsAll more old new = (kind : DataType) (values : List Value) → Holds old kind values → Holds new kind (values ++ more)
