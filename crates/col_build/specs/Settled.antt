-- What a builder holds that has made nothing ahead of further items.
use Rattle.std.specs.Prelude.{◌≡◌, ◌<◌, ℕ, Bool, false, List, [], ◌∷◌, ◌++◌, length, Result}
use Rattle.data_types.specs.promise.Storage.{storage_of}
use Rattle.data_types.specs.promise.Value.{Value}
use Rattle.data_types.specs.declared.kind.DataType.{DataType}
use Rattle.col_build.specs.promise.Encoding.{if_some, null_total, validity_of}
use Rattle.col_build.specs.Encoding.{Fits, most_values, push_fault}
use Rattle.col_build.specs.Holding.{HasBytes, Holds}
use Rattle.col_build.specs.Shapes.{IsAnswer, shape_in}
use Rattle.col_build.specs.declared.builder.Builder.{Builder}
use Rattle.col_build.specs.declared.item.PushFault.{PushFault}
use Rattle.col_build.specs.declared.shape.Shape.{Shape}
use Rattle.col_build.specs.declared.shape.Shape.TheVariants as shapes

-- the builder of a type holds these values, and its buffers are theirs as they are
pub record HoldsWhole (builder : Builder) (kind : DataType) (values : List Value) : Type 0 where
  pub is_kind : builder.kind ≡ kind
  pub shape : builder.shape ≡ shape_in (storage_of kind)
  pub count : builder.count ≡ length values
  pub nulls : builder.nulls ≡ null_total values
  pub validity : if_some builder.validity.items ≡ validity_of values
  pub bytes : HasBytes builder.shape values builder.offsets.items builder.bytes.items
  pub fits : Fits kind values

-- the builder holds some values
abbrev pub HoldsSomeWhole : Builder → Type 0
HoldsSomeWhole builder = (kind : DataType) × (values : List Value) × HoldsWhole builder kind values

-- and fewer than the most that there can be
abbrev pub HoldsFewWhole : Builder → Type 0
HoldsFewWhole builder = (kind : DataType) × (values : List Value) × HoldsWhole builder kind values × (length values < most_values)

-- what the old builder held the new one holds, with nothing ahead
abbrev pub Settles : Builder → Builder → Type 0
Settles old new = (kind : DataType) (values : List Value) → Holds old kind values → HoldsWhole new kind values

-- ---- what becomes of a builder with nothing ahead

abbrev pub KeepsWhole : Builder → Builder → Type 0
KeepsWhole old new = (kind : DataType) (values : List Value) → HoldsWhole old kind values → Holds new kind values

abbrev pub AddsWhole : Value → Builder → Builder → Type 0
AddsWhole value old new = (kind : DataType) (values : List Value) → HoldsWhole old kind values → Holds new kind (values ++ value ∷ [])

abbrev pub IsPushedWhole : Value → Builder → Result (Unit {0}) PushFault → Type 0
IsPushedWhole value old result = (kind : DataType) (values : List Value) → HoldsWhole old kind values → IsAnswer result (push_fault kind values value)

-- ---- where an item that is made ahead has its place

-- numbers of this many bytes
abbrev pub IsNumbers : ℕ → Shape → Type 0
IsNumbers width (shapes.Wholes own signed) = own ≡ width
IsNumbers width (shapes.Floats own) = own ≡ width
IsNumbers width shape = ⊥

-- bytes between narrow offsets
abbrev pub IsNarrow : Shape → Type 0
IsNarrow shape = (text : Bool) × (shape ≡ shapes.Between false text)
