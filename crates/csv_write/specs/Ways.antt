-- The ways in which the items of plain columns are written: the form of the fields, and how the items are stored.
use Rattle.std.specs.Prelude.{true, false}
use Rattle.data_types.specs.promise.FieldText.{Form, Truths, Wholes, FloatBits, Text, HexBytes, SizedHex, Decimals}
use Rattle.data_types.specs.declared.storage.Storage.{Storage}
use Rattle.data_types.specs.declared.storage.Storage.TheVariants as storages
use Rattle.csv_write.specs.declared.way.Way.{Way}
use Rattle.csv_write.specs.declared.way.Way.TheVariants as ways

abbrev pub form_by : Way → Form
form_by ways.Texts = Text
form_by ways.WideTexts = Text
form_by ways.Ints = Wholes 32 true
form_by ways.Longs = Wholes 64 true
form_by (ways.Wholes bits signed) = Wholes bits signed
form_by (ways.Decimals precision places) = Decimals precision places
form_by ways.Truths = Truths
form_by ways.Doubles = FloatBits 64
form_by (ways.Floats bits) = FloatBits bits
form_by ways.Bytes = HexBytes
form_by ways.WideBytes = HexBytes
form_by (ways.Sized size) = SizedHex size

abbrev pub storage_by : Way → Storage
storage_by ways.Texts = storages.Between false true
storage_by ways.WideTexts = storages.Between true true
storage_by ways.Ints = storages.Wholes 32 true
storage_by ways.Longs = storages.Wholes 64 true
storage_by (ways.Wholes bits signed) = storages.Wholes bits signed
storage_by (ways.Decimals precision places) = storages.Wholes 128 true
storage_by ways.Truths = storages.Truths
storage_by ways.Doubles = storages.Floats 64
storage_by (ways.Floats bits) = storages.Floats bits
storage_by ways.Bytes = storages.Between false false
storage_by ways.WideBytes = storages.Between true false
storage_by (ways.Sized size) = storages.Sized size
