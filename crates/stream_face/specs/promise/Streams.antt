-- How the tables of a stream are made of those of another.
use Rattle.std.specs.Prelude.{ℕ, List}
use Rattle.data_types.specs.promise.Table.{Row}

-- how tables are made of those of a link: its number, and the tables that come of more of its tables, where these are the last
pub record Making : Type 0 where
  pub link : ℕ
  pub makes : List (List Row) → List (List Row)
