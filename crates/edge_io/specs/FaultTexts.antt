-- The texts of faults.
use Rattle.std.specs.Prelude.{ℕ, ◌++◌, List, codes, decimal}
use Rattle.edge_io.specs.declared.edge.ReadFault.{ReadFault}
use Rattle.edge_io.specs.declared.edge.ReadFault.TheVariants as reads
use Rattle.edge_io.specs.declared.edge.WriteFault.{WriteFault}
use Rattle.edge_io.specs.declared.edge.WriteFault.TheVariants as writes

abbrev pub read_fault_text : ReadFault → List ℕ
read_fault_text reads.Failed = codes "read failed"
read_fault_text reads.TooLong = codes "input too long"
read_fault_text reads.NoMemory = codes "out of memory"

abbrev pub write_fault_text : WriteFault → List ℕ
write_fault_text (writes.Failed taken) = codes "write failed after " ++ decimal taken ++ codes " bytes"
