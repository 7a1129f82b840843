-- The texts of faults of format strings.
use Rattle.std.specs.Prelude.{ℕ, ◌++◌, List, codes, decimal}
use Rattle.fmt_string.specs.declared.fault.FormatFault.{FormatFault}
use Rattle.fmt_string.specs.declared.fault.FormatFault.TheVariants as faults
use Rattle.fmt_string.specs.declared.fault.FormatRule.{FormatRule}
use Rattle.fmt_string.specs.declared.fault.FormatRule.TheVariants as rules

-- a rule's name
abbrev pub rule_text : FormatRule → List ℕ
rule_text rules.Empty = codes "Empty"
rule_text rules.Unknown = codes "Unknown"
rule_text rules.BadNumber = codes "BadNumber"
rule_text rules.OutOfRange = codes "OutOfRange"
rule_text rules.Trailing = codes "Trailing"
rule_text rules.Unsupported = codes "Unsupported"

abbrev pub format_fault_text : FormatFault → List ℕ
format_fault_text (faults.At rule place) = rule_text rule ++ codes " at " ++ decimal place
format_fault_text faults.NoMemory = codes "out of memory"
