-- Why a stream has no text.
use Rattle.std.specs.Prelude.{Result, Ok, Err}
use Rattle.data_types.specs.declared.row_fault.RowFault.{RowFault}
use Rattle.csv_write.specs.declared.fault.DriveFault.{DriveFault}
use Rattle.csv_write.specs.declared.fault.DriveFault.TheVariants.{Row, NoMemory}

-- a fact of the record at fault
abbrev pub IfRow : DriveFault → (RowFault → Type 0) → Type 0
IfRow (Row fault) P = P fault
IfRow NoMemory P = Unit {0}

-- what is so where a record is refused
abbrev pub OnRow : {A : Type 0} → Result A DriveFault → Type 0 → Type 0
OnRow (Ok made) P = Unit {0}
OnRow (Err (Row fault)) P = P
OnRow (Err NoMemory) P = Unit {0}
