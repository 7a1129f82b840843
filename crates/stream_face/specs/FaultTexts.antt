-- The texts of faults.
use Rattle.std.specs.Prelude.{ℕ, ℤ, ◌++◌, List, codes}
use Rattle.std.specs.Fmt.{signed_decimal}
use Rattle.data_types.specs.FaultTexts.{row_fault_text}
use Rattle.schema_check.specs.FaultTexts.{schema_fault_text}
use Rattle.layout_rules.specs.promise.FaultTexts.{layout_fault_text}
use Rattle.stream_face.specs.declared.fault.StartFault.{StartFault}
use Rattle.stream_face.specs.declared.fault.StartFault.TheVariants as start
use Rattle.stream_face.specs.declared.fault.StreamFault.{StreamFault}
use Rattle.stream_face.specs.declared.fault.StreamFault.TheVariants as faults

abbrev pub code_text : ℤ → List ℕ
code_text code = codes "code " ++ signed_decimal code

-- why a stream was not started
abbrev pub start_fault_text : StartFault → List ℕ
start_fault_text (start.Code code) = code_text code
start_fault_text (start.Schema fault) = schema_fault_text fault

-- why a call of a checked stream refused
abbrev pub stream_fault_text : StreamFault → List ℕ
stream_fault_text (faults.Row fault) = row_fault_text fault
stream_fault_text (faults.Chunk fault) = layout_fault_text fault
stream_fault_text (faults.Code code) = code_text code
stream_fault_text faults.NoMemory = codes "out of memory"
