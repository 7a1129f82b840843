-- The texts of faults.
use Rattle.std.specs.Prelude.{ℕ, ◌++◌, List, codes, decimal}
use Rattle.csv_model.specs.declared.fault.HeaderFault.{HeaderFault}
use Rattle.csv_model.specs.declared.fault.HeaderFault.TheVariants as faults

-- why a text has no columns
abbrev pub header_fault_text : HeaderFault → List ℕ
header_fault_text faults.NoHeader = codes "no header"
header_fault_text (faults.TooManyColumns count) = codes "header has " ++ decimal count ++ codes " columns"
header_fault_text (faults.NotText column) = codes "header column " ++ decimal column ++ codes ": not UTF-8"
header_fault_text (faults.Twice column) = codes "header column " ++ decimal column ++ codes ": named before"
header_fault_text (faults.Unknown entry) = codes "schema entry " ++ decimal entry ++ codes ": no such column"
header_fault_text faults.NoMemory = codes "out of memory"
