-- The ranges of a type's numbers, and the types that have a zone.
use Rattle.std.specs.Prelude.{◌≡◌, ◌⊎◌, ◌<◌, ◌≤◌, ◌^◌, FitsSigned}
use Rattle.std.specs.Int.{w32}
use Rattle.data_types.specs.declared.kind.DataType.{DataType}
use Rattle.data_types.specs.declared.kind.DataType.TheVariants as kinds
use Rattle.data_types.specs.promise.Kinds.{most_precise}

-- the numbers of a type are in their ranges
abbrev pub KindOk : DataType → Type 0
KindOk (kinds.Int bits signed) = (bits ≡ 8) ⊎ (bits ≡ 16) ⊎ (bits ≡ 32) ⊎ (bits ≡ 64)
KindOk (kinds.Float bits) = (bits ≡ 16) ⊎ (bits ≡ 32) ⊎ (bits ≡ 64)
KindOk (kinds.FixedBinary size) = size < 2 ^ 31
KindOk (kinds.FixedList size) = size < 2 ^ 31
KindOk (kinds.Decimal precision scale wide) = (1 ≤ precision) × (precision ≤ most_precise wide) × FitsSigned w32 scale
KindOk _ = Unit {0}

-- a timestamp, whose zone takes memory
abbrev pub HasZone : DataType → Type 0
HasZone (kinds.Timestamp tick zone) = Unit {0}
HasZone _ = ⊥
