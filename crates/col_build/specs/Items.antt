-- What an item is, as a value.
use Rattle.data_types.specs.promise.Value.{Value, Null, Truth, Whole, Bits, Bytes}
use Rattle.col_build.specs.declared.item.Item.{Item}
use Rattle.col_build.specs.declared.item.Item.TheVariants as items

abbrev pub value_of : Item → Value
value_of items.Null = Null
value_of (items.Truth truth) = Truth truth
value_of (items.Whole number) = Whole number
value_of (items.Bits number) = Bits number
value_of (items.Bytes bytes) = Bytes bytes.now
