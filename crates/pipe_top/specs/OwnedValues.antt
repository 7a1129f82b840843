-- The values that the code keeps, as values.
use Rattle.std.specs.Prelude.{map, Vec}
use Rattle.std.specs.Global.{Global}
use Rattle.data_types.specs.promise.Table.{Row}
use Rattle.data_types.specs.promise.Value.{Value, Values, Null, Truth, Whole, Bits, Bytes, Items, Fields, no_values, more_values}
use Rattle.pipe_top.specs.declared.owned_value.OwnedValue.{OwnedValue, Items', Fields', Row_of-OwnedValue, end_of-OwnedValue, more_of-OwnedValue}
use Rattle.pipe_top.specs.declared.owned_value.OwnedValue.{Null as OwnNull, Truth as OwnTruth, Whole as OwnWhole, Bits as OwnBits, Bytes as OwnBytes}

abbrev mutual
  pub value_of : OwnedValue → Value
  value_of OwnNull = Null
  value_of (OwnTruth truth) = Truth truth
  value_of (OwnWhole number) = Whole number
  value_of (OwnBits bits) = Bits bits
  value_of (OwnBytes bytes) = Bytes bytes
  value_of (Items' shape row) = Items (values_in row)
  value_of (Fields' shape row) = Fields (values_in row)

  pub values_in : {m : _} → Row_of-OwnedValue m → Values
  values_in end_of-OwnedValue = no_values
  values_in (more_of-OwnedValue value rest) = more_values (value_of value) (values_in rest)

abbrev pub row_of : Vec OwnedValue Global → Row
row_of row = map value_of row.items
