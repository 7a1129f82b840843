-- How items that are stored in one way are laid out, and why a column of that layout doesn't take an item ("Arrow Columnar Format",
-- "Physical memory layout").
use Rattle.std.specs.Prelude.{◌≡◌, ◌⊎◌, ℕ, ◌+◌, ◌-◌, ◌*◌, ◌/◌, ◌^◌, Bool, true, false, nat_lt, ◌==◌, if◌then◌else◌, List, ◌++◌, length, Option, None, Some}
use Rattle.std.specs.Prelude.{Result, Ok, Err}
use Rattle.std.specs.Str.{is_utf8}
use Rattle.data_types.specs.promise.FieldText.{in_range}
use Rattle.data_types.specs.declared.storage.Storage.{Storage}
use Rattle.data_types.specs.declared.storage.Storage.TheVariants as stored
use Rattle.data_types.specs.promise.Value.{Value, Null, Truth, Whole, Bits, Bytes}
use Rattle.col_build.specs.promise.Encoding.{narrow_limit}
use Rattle.col_build.specs.declared.item.PushFault.{PushFault}
use Rattle.col_build.specs.declared.item.PushFault.TheVariants.{WrongKind, OutOfRange, NotText, NoMemory}
use Rattle.col_build.specs.declared.shape.Shape.{Shape}
use Rattle.col_build.specs.declared.shape.Shape.TheVariants as shapes

-- the shape of what is stored so; only what is in its place or between offsets has one
abbrev pub shape_in : Storage → Shape
shape_in stored.Truths = shapes.Truths
shape_in (stored.Wholes bits signed) = shapes.Wholes (bits / 8) signed
shape_in (stored.Floats bits) = shapes.Floats (bits / 8)
shape_in (stored.Sized size) = shapes.Sized size
shape_in (stored.Between wide text) = shapes.Between wide text
shape_in _ = shapes.Truths

-- ---- why an item isn't stored

abbrev pub range_fault : Bool → Option PushFault
range_fault true = None
range_fault false = Some OutOfRange

-- 2 to the power of the bits that a number of this many bits has beside its sign
abbrev pub past : ℕ → Bool → ℕ
past bits true = 2 ^ (bits - 1)
past bits false = 2 ^ bits

-- offsets of 32 bits reach this many bytes
abbrev pub reaches : Bool → ℕ → Bool
reaches true total = true
reaches false total = nat_lt total narrow_limit

abbrev pub text_fault : Bool → List ℕ → Option PushFault
text_fault false bytes = None
text_fault true bytes = if is_utf8 bytes then None else Some NotText

-- where this many bytes are between the offsets
abbrev pub between_fault : Bool → Bool → ℕ → List ℕ → Option PushFault
between_fault wide text total bytes = if reaches wide (total + length bytes) then text_fault text bytes else Some OutOfRange

abbrev pub shape_fault : Shape → ℕ → Value → Option PushFault
shape_fault shape total Null = None
shape_fault shapes.Truths total (Truth truth) = None
shape_fault (shapes.Wholes width signed) total (Whole number) = range_fault (in_range (8 * width) signed number)
shape_fault (shapes.Floats width) total (Bits number) = range_fault (nat_lt number (2 ^ (8 * width)))
shape_fault (shapes.Sized size) total (Bytes bytes) = range_fault (length bytes == size)
shape_fault (shapes.Between wide text) total (Bytes bytes) = between_fault wide text total bytes
shape_fault shape total value = Some WrongKind

-- ---- what an attempt to append some bytes leaves

-- it fails for this fault or where memory runs out
abbrev pub IsAnswer : Result (Unit {0}) PushFault → Option PushFault → Type 0
IsAnswer (Ok _) fault = fault ≡ None
IsAnswer (Err e) fault = (e ≡ NoMemory) ⊎ (fault ≡ Some e)

-- it fails for this fault or where memory runs out, and then the bytes stay
abbrev pub Stored : Result (Unit {0}) PushFault → List ℕ → List ℕ → Option PushFault → List ℕ → Type 0
Stored (Ok _) old new fault bytes = (fault ≡ None) × (new ≡ old ++ bytes)
Stored (Err e) old new fault bytes = ((e ≡ NoMemory) ⊎ (fault ≡ Some e)) × (new ≡ old)
