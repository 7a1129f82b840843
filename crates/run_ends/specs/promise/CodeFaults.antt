-- Which columns aren't made into runs, and which runs aren't made into a column ("Arrow Columnar Format", "Run-End Encoded Layout").
use Rattle.std.specs.Prelude.{ℕ, ◌^◌, ◌-◌, nat_lt, not, if◌then◌else◌, Option, None, Some}
use Rattle.data_types.specs.promise.KindTrees.{KindTree}
use Rattle.column_fill.specs.promise.FlatColumns.{is_flat_column}
use Rattle.run_ends.specs.declared.code_fault.CodeFault.{CodeFault}
use Rattle.run_ends.specs.declared.code_fault.CodeFault.TheVariants.{WrongKind, TooLong}

-- the most items that ends of 32 bits name
abbrev pub most_items : ℕ
most_items = 2 ^ 31 - 1

-- Why a column of these kinds with this many items isn't made into runs: its values aren't of a flat type, or there are too many.
abbrev pub code_fault : KindTree → ℕ → Option CodeFault
code_fault typed items = if not (is_flat_column typed) then Some WrongKind else if nat_lt most_items items then Some TooLong else None
