-- The text of a fault of the entries.
use Rattle.std.specs.Prelude.{ℕ, ◌++◌, List, codes, decimal}
use Rattle.stage_plan.specs.declared.fault.TypesFault.{TypesFault}
use Rattle.stage_plan.specs.declared.fault.TypesFault.TheVariants as faults
use Rattle.stage_plan.specs.promise.FaultTexts.{rule_text}

abbrev pub fault_text : TypesFault → List ℕ
fault_text (faults.At entry rule) = codes "schema entry " ++ decimal entry ++ codes ": " ++ rule_text rule
fault_text faults.NoMemory = codes "out of memory"
