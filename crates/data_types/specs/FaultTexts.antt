-- The texts of faults of records.
use Rattle.std.specs.Prelude.{ℕ, ◌++◌, List, codes, decimal}
use Rattle.data_types.specs.declared.row_fault.RowFault.{RowFault}
use Rattle.data_types.specs.declared.row_fault.RowFault.TheVariants as rows

-- why a record spells no row
abbrev pub row_fault_text : RowFault → List ℕ
row_fault_text (rows.Ragged row found) = codes "record " ++ decimal row ++ codes ": " ++ decimal found ++ codes " fields"
row_fault_text (rows.Field row column) = codes "record " ++ decimal row ++ codes ", column " ++ decimal column ++ codes ": not a value of its type"
