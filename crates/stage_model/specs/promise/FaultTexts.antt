-- The texts of faults.
use Rattle.std.specs.Prelude.{ℕ, List, codes}
use Rattle.stage_model.specs.declared.fault.PlanRule.{PlanRule}
use Rattle.stage_model.specs.declared.fault.PlanRule.TheVariants as rules
use Rattle.stage_model.specs.declared.fault.StageFault.{StageFault}
use Rattle.stage_model.specs.declared.fault.StageFault.TheVariants as stages

-- why a text is no stage
abbrev pub stage_fault_text : StageFault → List ℕ
stage_fault_text stages.UnknownStage = codes "unknown stage"
stage_fault_text stages.BadArguments = codes "bad arguments"
stage_fault_text stages.NoMemory = codes "out of memory"

-- what is wrong with a stage over columns
abbrev pub rule_text : PlanRule → List ℕ
rule_text rules.NoColumn = codes "no such column"
rule_text rules.SameName = codes "same name twice"
rule_text rules.WrongType = codes "wrong column type"
rule_text rules.BadConstant = codes "bad constant"
rule_text rules.NestedOutput = codes "nested column in the output"
rule_text rules.NoColumns = codes "no column left"
rule_text rules.TooWide = codes "too many columns"
