-- The texts of faults: the rule's name, and what it says; of a child's fault the child's number and the fault.
use Rattle.std.specs.Prelude.{ℕ, ◌++◌, List, codes, decimal}
use Rattle.std.specs.Fmt.{signed_decimal}
use Rattle.schema_meta.specs.FaultTexts.{read_fault_text}
use Rattle.layout_rules.specs.promise.FaultTexts.{layout_fault_text}
use Rattle.schema_check.specs.FaultTexts.{schema_fault_text}
use Rattle.union_cols.specs.declared.rule.UnionRule.{UnionRule}
use Rattle.union_cols.specs.declared.rule.UnionRule.TheVariants as rules
use Rattle.union_cols.specs.declared.rule.UnionFault.{UnionFault}
use Rattle.union_cols.specs.declared.schema_fault.UnionSchemaFault.{UnionSchemaFault}
use Rattle.union_cols.specs.declared.schema_fault.UnionSchemaFault.TheVariants as schemas
use Rattle.union_cols.specs.declared.tag_fault.TagFault.{TagFault}
use Rattle.union_cols.specs.declared.tag_fault.TagFault.TheVariants as tags

abbrev pub union_rule_text : UnionRule → List ℕ
union_rule_text rules.Released = codes "Released"
union_rule_text rules.NegativeLength = codes "NegativeLength"
union_rule_text rules.NegativeOffset = codes "NegativeOffset"
union_rule_text rules.BufferCount = codes "BufferCount"
union_rule_text rules.ChildCount = codes "ChildCount"
union_rule_text rules.Dictionary = codes "Dictionary"
union_rule_text rules.NullCount = codes "NullCount"
union_rule_text rules.BufferAbsent = codes "BufferAbsent"
union_rule_text rules.BufferShort = codes "BufferShort"
union_rule_text rules.BadTypeId = codes "BadTypeId"
union_rule_text (rules.Child fault) = codes "Child"
union_rule_text rules.ChildShort = codes "ChildShort"
union_rule_text rules.OffsetRange = codes "OffsetRange"
union_rule_text rules.WindowTooLong = codes "WindowTooLong"

abbrev pub numbers_text : UnionFault → List ℕ
numbers_text fault =
    union_rule_text fault.rule ++ codes " at " ++ decimal fault.place ++ codes ": "
    ++ signed_decimal fault.left ++ codes ", " ++ signed_decimal fault.right

abbrev pub text_by_rule : UnionRule → UnionFault → List ℕ
text_by_rule (rules.Child inner) fault = codes "child " ++ decimal fault.place ++ codes ": " ++ layout_fault_text inner
text_by_rule _ fault = numbers_text fault

abbrev pub union_fault_text : UnionFault → List ℕ
union_fault_text fault = text_by_rule fault.rule fault

abbrev pub union_schema_text : UnionSchemaFault → List ℕ
union_schema_text schemas.Released = codes "Released"
union_schema_text (schemas.Format place) = codes "Format at " ++ decimal place
union_schema_text (schemas.Meta fault) = codes "Meta: " ++ read_fault_text fault
union_schema_text schemas.Dictionary = codes "Dictionary"
union_schema_text (schemas.ChildCount found needed) = codes "ChildCount: " ++ decimal found ++ codes ", " ++ decimal needed
union_schema_text (schemas.Child child fault) = codes "child " ++ decimal child ++ codes ": " ++ schema_fault_text fault
union_schema_text schemas.NoMemory = codes "out of memory"

abbrev pub tag_fault_text : TagFault → List ℕ
tag_fault_text (tags.Columns count) = codes "Columns: " ++ decimal count
tag_fault_text tags.TooLong = codes "TooLong"
tag_fault_text tags.NoMemory = codes "out of memory"
