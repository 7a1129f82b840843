-- The columns of runs in the making: their ends, and their values.
use Rattle.std.specs.Prelude.{◌≡◌, ℕ, ◌<◌, ◌++◌, List, length, map, drop}
use Rattle.data_types.specs.declared.kind.DataType.{DataType}
use Rattle.data_types.specs.promise.Value.{Value}
use Rattle.col_build.specs.promise.Encoding.{narrow_limit}
use Rattle.col_build.specs.Encoding.{Fits}
use Rattle.col_build.specs.Holding.{Holds}
use Rattle.run_ends.specs.declared.encoder.Making.{Making}
use Rattle.run_ends.specs.promise.RunCoding.{Run, runs_from}
use Rattle.run_ends.specs.RunCoding.{end_kind, end_of, value_of}

-- they hold these runs, whose values are of this type
pub record HoldsRuns (making : Making) (kind : DataType) (runs : List Run) : Type 0 where
  pub ends : Holds making.ends end_kind (map end_of runs)
  pub values : Holds making.values kind (map value_of runs)

-- they hold the runs of a column's values up to an item, where the next run begins
pub record HoldsUpTo (making : Making) (kind : DataType) (values : List Value) (at : ℕ) : Type 0 where
  pub done : List Run
  pub split : runs_from 0 values ≡ done ++ runs_from at (drop at values)
  pub holds : HoldsRuns making kind done
  pub fits : Fits kind values
  pub few : length values < narrow_limit
