-- The texts of faults: the rule's name, and what it says; of a child's fault the child's number and the fault.
use Rattle.std.specs.Prelude.{ℕ, ◌++◌, List, codes, decimal}
use Rattle.std.specs.Fmt.{signed_decimal}
use Rattle.schema_meta.specs.FaultTexts.{read_fault_text}
use Rattle.layout_rules.specs.promise.FaultTexts.{layout_fault_text}
use Rattle.schema_check.specs.FaultTexts.{schema_fault_text}
use Rattle.run_ends.specs.declared.code_fault.CodeFault.{CodeFault}
use Rattle.run_ends.specs.declared.code_fault.CodeFault.TheVariants as codings
use Rattle.run_ends.specs.declared.rule.RunsRule.{RunsRule}
use Rattle.run_ends.specs.declared.rule.RunsRule.TheVariants as rules
use Rattle.run_ends.specs.declared.rule.RunsFault.{RunsFault}
use Rattle.run_ends.specs.declared.schema_fault.RunsSchemaFault.{RunsSchemaFault}
use Rattle.run_ends.specs.declared.schema_fault.RunsSchemaFault.TheVariants as schemas

abbrev pub runs_rule_text : RunsRule → List ℕ
runs_rule_text rules.Released = codes "Released"
runs_rule_text rules.NegativeLength = codes "NegativeLength"
runs_rule_text rules.NegativeOffset = codes "NegativeOffset"
runs_rule_text rules.BufferCount = codes "BufferCount"
runs_rule_text rules.ChildCount = codes "ChildCount"
runs_rule_text rules.Dictionary = codes "Dictionary"
runs_rule_text rules.NullCount = codes "NullCount"
runs_rule_text (rules.Child fault) = codes "Child"
runs_rule_text rules.EndsNull = codes "EndsNull"
runs_rule_text rules.EndsFall = codes "EndsFall"
runs_rule_text rules.ValuesShort = codes "ValuesShort"
runs_rule_text rules.EndsShort = codes "EndsShort"
runs_rule_text rules.WindowTooLong = codes "WindowTooLong"

abbrev pub numbers_text : RunsFault → List ℕ
numbers_text fault =
    runs_rule_text fault.rule ++ codes " at " ++ decimal fault.place ++ codes ": "
    ++ signed_decimal fault.left ++ codes ", " ++ signed_decimal fault.right

abbrev pub text_by_rule : RunsRule → RunsFault → List ℕ
text_by_rule (rules.Child inner) fault = codes "child " ++ decimal fault.place ++ codes ": " ++ layout_fault_text inner
text_by_rule _ fault = numbers_text fault

abbrev pub runs_fault_text : RunsFault → List ℕ
runs_fault_text fault = text_by_rule fault.rule fault

abbrev pub runs_schema_text : RunsSchemaFault → List ℕ
runs_schema_text schemas.Released = codes "Released"
runs_schema_text schemas.Format = codes "Format"
runs_schema_text (schemas.Meta fault) = codes "Meta: " ++ read_fault_text fault
runs_schema_text schemas.Dictionary = codes "Dictionary"
runs_schema_text (schemas.ChildCount found) = codes "ChildCount: " ++ decimal found ++ codes ", 2"
runs_schema_text (schemas.Child child fault) = codes "child " ++ decimal child ++ codes ": " ++ schema_fault_text fault
runs_schema_text schemas.EndsType = codes "EndsType"
runs_schema_text schemas.NoMemory = codes "out of memory"

abbrev pub code_fault_text : CodeFault → List ℕ
code_fault_text codings.WrongKind = codes "WrongKind"
code_fault_text codings.TooLong = codes "TooLong"
code_fault_text codings.NoMemory = codes "out of memory"
