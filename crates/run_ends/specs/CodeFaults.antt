-- Why runs aren't made into a column, and the fault of an answer.
use Rattle.std.specs.Prelude.{ℕ, ◌^◌, ◌-◌, nat_lt, ◌&&◌, Bool, false, not, if◌then◌else◌, List, Option, None, Some, Result, Ok, Err}
use Rattle.data_types.specs.promise.Value.{Value, byte_total}
use Rattle.data_types.specs.declared.kind.DataType.{DataType}
use Rattle.data_types.specs.declared.kind.DataType.TheVariants as kinds
use Rattle.data_types.specs.promise.KindTrees.{KindTree, kind_in}
use Rattle.column_fill.specs.promise.FlatColumns.{is_flat_column}
use Rattle.run_ends.specs.declared.code_fault.CodeFault.{CodeFault}
use Rattle.run_ends.specs.declared.code_fault.CodeFault.TheVariants.{WrongKind, TooLong, NoMemory}

-- texts or bytes between offsets of 32 bits
abbrev pub is_narrow : DataType → Bool
is_narrow (kinds.Utf8 wide) = not wide
is_narrow (kinds.Binary wide) = not wide
is_narrow _ = false

-- the most bytes that offsets of 32 bits reach
abbrev pub most_bytes : ℕ
most_bytes = 2 ^ 31 - 1

-- Why runs whose values are of these kinds aren't made into a column of these items: the values aren't of a flat type, or the items
-- have more bytes in all than the column's offsets reach. A null has no bytes.
abbrev pub decode_fault : KindTree → List Value → Option CodeFault
decode_fault typed items =
    if not (is_flat_column typed) then Some WrongKind
    else if is_narrow (kind_in typed) && nat_lt most_bytes (byte_total items) then Some TooLong
    else None

-- the fault of an answer that is no out-of-memory
abbrev pub refused_code : {X : Type 0} → Result X CodeFault → Option CodeFault
refused_code (Ok x) = None
refused_code (Err WrongKind) = Some WrongKind
refused_code (Err TooLong) = Some TooLong
refused_code (Err NoMemory) = None
