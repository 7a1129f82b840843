-- The text of a fault: the rule's name, and behind it the column, where one is at fault.
use Rattle.std.specs.Prelude.{ℕ, List, ◌++◌, codes, decimal}
use Rattle.list_cols.specs.declared.fault.ListFault.{ListFault}
use Rattle.list_cols.specs.declared.fault.ListFault.TheVariants as lists

abbrev pub list_fault_text : ListFault → List ℕ
list_fault_text (lists.WrongKind column) = codes "WrongKind: " ++ decimal column
list_fault_text lists.TooLong = codes "TooLong"
list_fault_text lists.NoMemory = codes "out of memory"
