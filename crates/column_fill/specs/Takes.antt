-- What a builder takes of a column's items.
use Rattle.std.specs.Prelude.{◌≡◌, ◌<◌, List, length, None}
use Rattle.data_types.specs.promise.Storage.{storage_of}
use Rattle.data_types.specs.promise.Value.{Value, Null, Truth, Whole, Bits, Bytes}
use Rattle.data_types.specs.declared.kind.DataType.{DataType}
use Rattle.data_types.specs.declared.storage.Storage.{Storage}
use Rattle.data_types.specs.declared.storage.Storage.TheVariants as stored
use Rattle.col_build.specs.Encoding.{most_values, push_fault}
use Rattle.col_build.specs.Holding.{Holds}
use Rattle.col_build.specs.declared.builder.Builder.{Builder}

-- null, or a value that is stored so
abbrev pub IsStored : Storage → Value → Type 0
IsStored storage Null = Unit {0}
IsStored stored.Truths (Truth truth) = Unit {0}
IsStored (stored.Wholes bits signed) (Whole number) = Unit {0}
IsStored (stored.Floats bits) (Bits number) = Unit {0}
IsStored (stored.Sized size) (Bytes bytes) = Unit {0}
IsStored (stored.Between wide text) (Bytes bytes) = Unit {0}
IsStored _ _ = ⊥

-- the builder takes this value of its type, which is stored so
pub record Takes (builder : Builder) (storage : Storage) (value : Value) : Type 0 where
  pub kind : DataType
  pub values : List Value
  pub holds : Holds builder kind values
  pub few : length values < most_values
  pub stored : storage ≡ storage_of kind
  pub is : IsStored storage value
  pub taken : push_fault kind values value ≡ None
