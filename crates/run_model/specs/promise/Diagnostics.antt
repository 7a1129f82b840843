-- What a run writes of its fault and of its audit, and what of that came to the sink of diagnostics.
use Rattle.std.specs.Prelude.{ℕ, ◌≡◌, ◌⊎◌, ◌++◌, Bool, List, [], Option, None, Some, codes, decimal, if◌then◌else◌}
use Rattle.edge_io.specs.declared.edge.WriteFault.{WriteFault}
use Rattle.stage_model.specs.promise.FaultTexts.{rule_text, stage_fault_text}
use Rattle.stage_plan.specs.promise.FaultTexts.{rule_text as entry_text}
use Rattle.tree_check.specs.promise.FaultTexts.{tree_fault_text}
use Rattle.tree_check.specs.promise.Runs.{Took}
use Rattle.unit_pass.specs.declared.pass.Audit.{Audit}
use Rattle.run_model.specs.promise.FaultTexts.{fault_text as words_text}
use Rattle.run_model.specs.declared.fault.RunFault.{RunFault}
use Rattle.run_model.specs.declared.fault.RunFault.TheVariants as run

-- ---- the lines

-- what is written of a fault
abbrev pub fault_text : RunFault → List ℕ
fault_text (run.Words fault) = words_text fault
fault_text (run.Stage number fault) = codes "stage " ++ decimal number ++ codes ": " ++ stage_fault_text fault
fault_text (run.Schema entry rule) = codes "schema entry " ++ decimal entry ++ codes ": " ++ entry_text rule
fault_text (run.Plan number rule) = codes "stage " ++ decimal number ++ codes ": " ++ rule_text rule
fault_text run.NoHeader = codes "no header"
fault_text (run.TooManyColumns count) = codes "header has " ++ decimal count ++ codes " columns"
fault_text (run.HeaderText column) = codes "header column " ++ decimal column ++ codes ": not UTF-8"
fault_text (run.HeaderTwice column) = codes "header column " ++ decimal column ++ codes ": named before"
fault_text (run.HeaderUnknown entry) = codes "schema entry " ++ decimal entry ++ codes ": no such column"
fault_text (run.Ragged number found) = codes "record " ++ decimal number ++ codes ": " ++ decimal found ++ codes " fields"
fault_text (run.Field number column) = codes "record " ++ decimal number ++ codes ", column " ++ decimal column ++ codes ": not a value of its type"
fault_text (run.Tree fault) = tree_fault_text fault
fault_text run.InputTooLong = codes "input longer than 1073741824 bytes"
fault_text run.ReadFault = codes "read failed"
fault_text (run.WriteFault taken) = codes "write failed after " ++ decimal taken ++ codes " bytes"
fault_text run.NoMemory = codes "out of memory"

-- the line of a fault, where there is one
abbrev pub fault_line : Option RunFault → List ℕ
fault_line None = []
fault_line (Some fault) = codes "arrowpipe: " ++ fault_text fault ++ codes "\n"

-- the line of an audit, of which nothing is left, where it is wanted
abbrev pub audit_if : Bool → Audit → List ℕ
audit_if wanted audit =
    if wanted then codes "audit blocks=" ++ decimal audit.blocks ++ codes " nodes=" ++ decimal audit.nodes ++ codes " left=0\n" else []

-- ---- what came to the sink

-- the line of a fault and a text of an audit were written, which may be missing without memory
abbrev pub Told : Option (List ℕ) → Option (List ℕ) → ℕ → ℕ → Option RunFault → List ℕ → Type 0
Told old new before now fault audit =
    Took old new before now (fault_line fault ++ audit) ⊎ ((fault ≡ Some run.NoMemory) × Took old new before now (fault_line fault))
