-- The items of a column that have given numbers, and what they meet where they make a column of their own.
use Rattle.std.specs.Prelude.{◌≡◌, ◌+◌, ◌<◌, ℕ, List, map, replicate, All, if◌then◌else◌}
use Rattle.std.specs.List.{flat_map}
use Rattle.data_types.specs.promise.Table.{Flat}
use Rattle.data_types.specs.promise.Storage.{storage_of}
use Rattle.data_types.specs.promise.Value.{Value, Null}
use Rattle.data_types.specs.declared.kind.DataType.{DataType}
use Rattle.col_build.specs.Encoding.{Fits}
use Rattle.arr_import.specs.Plain.{IsItemThere, is_valid_in, storage_in, valid_item}
use Rattle.arr_import.specs.declared.plain.Plain.{Plain}
use Rattle.raw_array.specs.promise.Members.{ArrayTree}
use Rattle.data_types.specs.promise.ColumnKinds.{type_of_kind}
use Rattle.data_types.specs.promise.KindTrees.{KindTree}
use Rattle.layout_rules.specs.promise.Values.{tree_items, value_at}
use Rattle.layout_rules.specs.promise.Walk.{LayoutOk}
use Rattle.column_fill.specs.declared.runs.Run.{Run}

-- the items of numbers that are counted from an item of an array's window on
abbrev pub values_at : KindTree → ArrayTree → ℕ → List ℕ → List Value
values_at typed array start kept = map (λ i. value_at typed array (start + i)) kept

-- an item of each run, as often as the run says
abbrev pub values_of_runs : KindTree → ArrayTree → List Run → List Value
values_of_runs typed array runs = flat_map (λ run. replicate run.times (value_at typed array run.item)) runs

-- the items of numbers, of a column that is read by its places
abbrev pub shown_at : Plain → ℕ → List ℕ → List Value
shown_at items start kept = map (λ i. if is_valid_in items (start + i) then valid_item items (start + i) else Null) kept

-- they can be read, and have an encoding
pub record CanGatherPlaces (kind : DataType) (items : Plain) (start : ℕ) (kept : List ℕ) : Type 0 where
  pub there : All (λ i. IsItemThere items (start + i)) kept
  pub stored : storage_in items ≡ storage_of kind
  pub fits : Fits kind (shown_at items start kept)

-- items of a lawful array, by numbers that are counted from one of them on, which have an encoding
pub record CanGather (kind : DataType) (array : ArrayTree) (start : ℕ) (kept : List ℕ) : Type 0 where
  pub ok : LayoutOk (type_of_kind (Flat kind)) array
  pub inside : All (λ i. start + i < tree_items array) kept
  pub items : Fits kind (values_at (type_of_kind (Flat kind)) array start kept)

-- and items of runs
pub record CanGatherRuns (kind : DataType) (array : ArrayTree) (runs : List Run) : Type 0 where
  pub ok : LayoutOk (type_of_kind (Flat kind)) array
  pub inside : All (λ run. run.item < tree_items array) runs
  pub items : Fits kind (values_of_runs (type_of_kind (Flat kind)) array runs)
