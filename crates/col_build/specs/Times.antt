-- An item that a column takes many times.
use Rattle.std.specs.Prelude.{◌≡◌, ◌⊎◌, ◌+◌, ◌≤◌, ◌<◌, ℕ, Bool, List, ◌++◌, length, replicate, None}
use Rattle.data_types.specs.promise.Value.{Value}
use Rattle.data_types.specs.declared.kind.DataType.{DataType}
use Rattle.col_build.specs.promise.Encoding.{bit_bytes}
use Rattle.col_build.specs.Encoding.{most_values, push_fault}
use Rattle.col_build.specs.Holding.{Holds}
use Rattle.col_build.specs.declared.builder.Builder.{Builder}
use Rattle.col_build.specs.declared.shape.Shape.{Shape}
use Rattle.col_build.specs.declared.shape.Shape.TheVariants as shapes

-- the column takes the value so often: each time behind those that it holds and those that were added
pub record TakesTimes (builder : Builder) (value : Value) (times : ℕ) : Type 0 where
  pub kind : DataType
  pub values : List Value
  pub holds : Holds builder kind values
  pub few : length values + times ≤ most_values
  pub each : (i : ℕ) → i < times → push_fault kind (values ++ replicate i value) value ≡ None

-- what the old builder held the new one holds, and the value so often behind it
abbrev pub AddsTimes : Value → ℕ → Builder → Builder → Type 0
AddsTimes value times old new = (kind : DataType) (values : List Value) → Holds old kind values → Holds new kind (values ++ replicate times value)

-- the same, no more often than that
abbrev pub AddsSome : Value → ℕ → Builder → Builder → Type 0
AddsSome value times old new =
    (kind : DataType) (values : List Value) → Holds old kind values → (i : ℕ) × (i ≤ times) × Holds new kind (values ++ replicate i value)

-- the items of the shape have no bytes of their own: they are bits, or nothing
abbrev pub IsBitwise : Shape → Type 0
IsBitwise shape = (shape ≡ shapes.Truths) ⊎ (shape ≡ shapes.Sized 0)

-- ---- bits

-- the bytes are those of this many bits
abbrev pub ShowsBits : ℕ → List ℕ → Type 0
ShowsBits count bytes = (flags : List Bool) × (length flags ≡ count) × (bytes ≡ bit_bytes flags)

-- behind this many bits one of them is there so often
abbrev pub AddsBits : ℕ → Bool → ℕ → List ℕ → List ℕ → Type 0
AddsBits count flag times old new =
    (flags : List Bool) → length flags ≡ count → old ≡ bit_bytes flags → new ≡ bit_bytes (flags ++ replicate times flag)
