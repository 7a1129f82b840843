-- The texts of faults of arrays: the way to the node, the rule's name, and what it says.
use Rattle.std.specs.Prelude.{ℕ, ◌++◌, List, codes, decimal}
use Rattle.std.specs.Fmt.{signed_decimal}
use Rattle.layout_rules.specs.declared.rule.LayoutFault.{LayoutFault}
use Rattle.layout_rules.specs.declared.rule.LayoutRule.{LayoutRule}
use Rattle.layout_rules.specs.declared.rule.LayoutRule.TheVariants as rules
use Rattle.data_types.specs.promise.WayTexts.{way_text}
use Rattle.data_types.specs.promise.Ways.{steps_of}

-- a rule's name
abbrev pub rule_text : LayoutRule → List ℕ
rule_text rules.Released = codes "Released"
rule_text rules.NegativeLength = codes "NegativeLength"
rule_text rules.NegativeOffset = codes "NegativeOffset"
rule_text rules.BufferCount = codes "BufferCount"
rule_text rules.ChildCount = codes "ChildCount"
rule_text rules.Dictionary = codes "Dictionary"
rule_text rules.BufferAbsent = codes "BufferAbsent"
rule_text rules.BufferShort = codes "BufferShort"
rule_text rules.OffsetsFall = codes "OffsetsFall"
rule_text rules.ChildShort = codes "ChildShort"
rule_text rules.NullCount = codes "NullCount"
rule_text rules.NotText = codes "NotText"
rule_text rules.IndexRange = codes "IndexRange"
rule_text rules.TopNulls = codes "TopNulls"
rule_text rules.WindowTooLong = codes "WindowTooLong"
rule_text rules.TopKind = codes "TopKind"
rule_text rules.ViewPlace = codes "ViewPlace"
rule_text rules.ViewPrefix = codes "ViewPrefix"

abbrev pub layout_fault_text : LayoutFault → List ℕ
layout_fault_text fault =
    way_text (steps_of fault.path) ++ codes ": " ++ rule_text fault.rule
    ++ codes " at " ++ decimal fault.place ++ codes ": " ++ signed_decimal fault.left ++ codes ", " ++ signed_decimal fault.right
