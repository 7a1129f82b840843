-- The texts of faults: the rule's name, and what it says.
use Rattle.std.specs.Prelude.{ℕ, ◌++◌, List, codes, decimal}
use Rattle.std.specs.Fmt.{signed_decimal}
use Rattle.schema_meta.specs.FaultTexts.{read_fault_text}
use Rattle.layout_rules.specs.promise.FaultTexts.{layout_fault_text}
use Rattle.schema_check.specs.FaultTexts.{schema_fault_text}
use Rattle.root_check.specs.declared.own.OwnRule.{OwnRule}
use Rattle.root_check.specs.declared.own.OwnRule.TheVariants as rules
use Rattle.root_check.specs.declared.own.OwnFault.{OwnFault}
use Rattle.root_check.specs.declared.children.FaultyChild.{FaultyChild}
use Rattle.root_check.specs.declared.own_schema.OwnSchemaFault.{OwnSchemaFault}
use Rattle.root_check.specs.declared.own_schema.OwnSchemaFault.TheVariants as own
use Rattle.root_check.specs.declared.kids.ChildKindsFault.{ChildKindsFault}
use Rattle.root_check.specs.declared.kids.ChildKindsFault.TheVariants as kids

-- a rule's name
abbrev pub own_rule_text : OwnRule → List ℕ
own_rule_text rules.Released = codes "Released"
own_rule_text rules.NegativeLength = codes "NegativeLength"
own_rule_text rules.NegativeOffset = codes "NegativeOffset"
own_rule_text rules.BufferCount = codes "BufferCount"
own_rule_text rules.ChildCount = codes "ChildCount"
own_rule_text rules.Dictionary = codes "Dictionary"
own_rule_text rules.NullCount = codes "NullCount"

abbrev pub own_fault_text : OwnFault → List ℕ
own_fault_text fault =
    own_rule_text fault.rule ++ codes " at " ++ decimal fault.numbers.place ++ codes ": "
    ++ signed_decimal fault.numbers.left ++ codes ", " ++ signed_decimal fault.numbers.right

abbrev pub child_fault_text : FaultyChild → List ℕ
child_fault_text fault = codes "child " ++ decimal fault.child ++ codes ": " ++ layout_fault_text fault.fault

abbrev pub own_schema_fault_text : OwnSchemaFault → List ℕ
own_schema_fault_text (own.Meta fault) = codes "Meta: " ++ read_fault_text fault
own_schema_fault_text own.Dictionary = codes "Dictionary"

abbrev pub kids_fault_text : ChildKindsFault → List ℕ
kids_fault_text (kids.Child child fault) = codes "child " ++ decimal child ++ codes ": " ++ schema_fault_text fault
kids_fault_text kids.NoMemory = codes "out of memory"
