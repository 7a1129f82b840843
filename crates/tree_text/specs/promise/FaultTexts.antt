-- The texts of faults.
use Rattle.std.specs.Prelude.{ℕ, ◌++◌, List, codes, decimal}
use Rattle.tree_text.specs.declared.fault.TextFault.{TextFault}
use Rattle.tree_text.specs.declared.fault.TextFault.TheVariants.{Line, TooManyLines, NoMemory}

-- what is printed of a fault
abbrev pub text_fault_text : TextFault → List ℕ
text_fault_text (Line number) = codes "tree line " ++ decimal number ++ codes ": not expected"
text_fault_text TooManyLines = codes "tree: too many lines"
text_fault_text NoMemory = codes "out of memory"
