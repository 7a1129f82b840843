-- The texts of faults.
use Rattle.std.specs.Prelude.{ℕ, List, codes}
use Rattle.data_types.specs.FaultTexts.{row_fault_text}
use Rattle.csv_read.specs.declared.body.BodyFault.{BodyFault}
use Rattle.csv_read.specs.declared.body.BodyFault.TheVariants as faults

-- why records make no columns
abbrev pub body_fault_text : BodyFault → List ℕ
body_fault_text (faults.Row fault) = row_fault_text fault
body_fault_text faults.NoMemory = codes "out of memory"
