-- The texts of faults.
use Rattle.std.specs.Prelude.{ℕ, ◌++◌, List, codes, decimal}
use Rattle.schema_meta.specs.declared.fault.MetaFault.{MetaFault}
use Rattle.schema_meta.specs.declared.fault.MetaFault.TheVariants as reading
use Rattle.schema_meta.specs.declared.fault.MetaWriteFault.{MetaWriteFault}
use Rattle.schema_meta.specs.declared.fault.MetaWriteFault.TheVariants as writing

abbrev pub read_fault_text : MetaFault → List ℕ
read_fault_text (reading.Short place) = codes "Short at " ++ decimal place
read_fault_text (reading.Negative place) = codes "Negative at " ++ decimal place
read_fault_text (reading.Trailing place) = codes "Trailing at " ++ decimal place
read_fault_text reading.NoMemory = codes "out of memory"

abbrev pub write_fault_text : MetaWriteFault → List ℕ
write_fault_text (writing.TooLong pair) = codes "TooLong at pair " ++ decimal pair
write_fault_text writing.NoMemory = codes "out of memory"
