-- The texts of faults of a draining.
use Rattle.std.specs.Prelude.{ℕ, ◌++◌, List, codes, decimal}
use Rattle.layout_rules.specs.promise.FaultTexts.{layout_fault_text}
use Rattle.foreign_array.specs.declared.draining.DrainFault.{DrainFault}
use Rattle.foreign_array.specs.declared.draining.DrainFault.TheVariants as faults

abbrev pub drain_fault_text : DrainFault → List ℕ
drain_fault_text (faults.Layout chunk fault) = codes "chunk " ++ decimal chunk ++ codes ": " ++ layout_fault_text fault
drain_fault_text faults.NoMemory = codes "out of memory"
