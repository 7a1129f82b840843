-- The text of a fault of the code's check.
use Rattle.std.specs.Prelude.{ℕ, List, codes}
use Rattle.layout_rules.specs.promise.FaultTexts.{layout_fault_text}
use Rattle.schema_check.specs.FaultTexts.{schema_fault_text}
use Rattle.tree_check.specs.declared.fault.CheckFault.{CheckFault}
use Rattle.tree_check.specs.declared.fault.CheckFault.TheVariants as check
use Rattle.tree_check.specs.declared.imported.ImportFault.{ImportFault}
use Rattle.tree_check.specs.declared.imported.ImportFault.TheVariants as faults
use Rattle.tree_check.specs.promise.FaultTexts.{tree_fault_text}

-- why no report is given
abbrev pub check_fault_text : CheckFault → List ℕ
check_fault_text (check.Tree fault) = tree_fault_text fault
check_fault_text check.NoMemory = codes "out of memory"

-- why two structures are not taken
abbrev pub import_fault_text : ImportFault → List ℕ
import_fault_text (faults.Schema fault) = schema_fault_text fault
import_fault_text (faults.Layout fault) = layout_fault_text fault
