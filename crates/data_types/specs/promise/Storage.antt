-- How the values of each type are stored ("Arrow Columnar Format", "Physical memory layout"): the one table of it.
use Rattle.std.specs.Prelude.{ℕ, true, false}
use Rattle.data_types.specs.declared.kind.DataType.{DataType}
use Rattle.data_types.specs.declared.kind.DataType.TheVariants as kinds
use Rattle.data_types.specs.declared.kind.Tick.{Tick}
use Rattle.data_types.specs.declared.kind.Tick.TheVariants as ticks
use Rattle.data_types.specs.declared.storage.Storage.{Storage}
use Rattle.data_types.specs.declared.storage.Storage.TheVariants.{Nothing, Truths, Wholes, Floats, Sized, Between, Lists, FixedLists, Children, Views}

abbrev pub time_bits : Tick → ℕ
time_bits ticks.Second = 32
time_bits ticks.Milli = 32
time_bits ticks.Micro = 64
time_bits ticks.Nano = 64

-- numbers of 256 bits and intervals of several numbers are stored as bytes
abbrev pub storage_of : DataType → Storage
storage_of kinds.Null = Nothing
storage_of kinds.Bool = Truths
storage_of (kinds.Int bits signed) = Wholes bits signed
storage_of (kinds.Float bits) = Floats bits
storage_of (kinds.Binary wide) = Between wide false
storage_of (kinds.Utf8 wide) = Between wide true
storage_of (kinds.FixedBinary size) = Sized size
storage_of (kinds.Decimal precision scale false) = Wholes 128 true
storage_of (kinds.Decimal precision scale true) = Sized 32
storage_of kinds.DateDay = Wholes 32 true
storage_of kinds.DateMilli = Wholes 64 true
storage_of (kinds.TimeOfDay tick) = Wholes (time_bits tick) true
storage_of (kinds.Timestamp tick zone) = Wholes 64 true
storage_of (kinds.Duration tick) = Wholes 64 true
storage_of kinds.IntervalMonths = Wholes 32 true
storage_of kinds.IntervalDayTime = Sized 8
storage_of kinds.IntervalMonthDayNano = Sized 16
storage_of (kinds.List wide) = Lists wide
storage_of (kinds.FixedList size) = FixedLists size
storage_of kinds.Struct = Children
storage_of kinds.Map = Lists false
storage_of kinds.BinaryView = Views false
storage_of kinds.Utf8View = Views true
