-- Builders out of which the columns were taken.
use Rattle.std.specs.Prelude.{◌≡◌, ◌<◌, ◌⊎◌, ℕ, List, [], length, get_or}
use Rattle.col_build.specs.Holding.{Holds, Keeps}
use Rattle.col_build.specs.declared.builder.Builder.{Builder}
use Rattle.data_types.specs.promise.Value.{Value}
use Rattle.data_types.specs.declared.kind.DataType.{DataType}

-- the builder is of the same column, and holds nothing
abbrev pub IsEmptied : Builder → Builder → Type 0
IsEmptied old new = (kind : DataType) (values : List Value) → Holds old kind values → Holds new kind []

-- the same, or it holds what it held
abbrev pub IsSpent : Builder → Builder → Type 0
IsSpent old new = IsEmptied old new ⊎ Keeps old new

-- each of these builders became one of those
pub record EachBecame (Became : Builder → Builder → Type 0) (old new : List Builder) : Type 0 where
  pub count : length new ≡ length old
  pub each : (j : ℕ) (b : Builder) → j < length old → Became (get_or old j b) (get_or new j b)

abbrev pub AreEmptied : List Builder → List Builder → Type 0
AreEmptied old new = EachBecame IsEmptied old new

abbrev pub AreSpent : List Builder → List Builder → Type 0
AreSpent old new = EachBecame IsSpent old new
