-- The texts of faults.
use Rattle.std.specs.Prelude.{ℕ, List, codes}
use Rattle.stage_plan.specs.declared.fault.TypesRule.{TypesRule}
use Rattle.stage_plan.specs.declared.fault.TypesRule.TheVariants as rules

abbrev pub rule_text : TypesRule → List ℕ
rule_text rules.BadEntry = codes "not a column type"
rule_text rules.Twice = codes "named before"
