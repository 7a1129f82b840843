-- The text of a fault of a plan.
use Rattle.std.specs.Prelude.{ℕ, ◌++◌, List, codes, decimal}
use Rattle.stage_model.specs.declared.fault.PlanFault.{PlanFault}
use Rattle.stage_model.specs.declared.fault.PlanFault.TheVariants as plans
use Rattle.stage_model.specs.promise.FaultTexts.{rule_text}

abbrev pub plan_fault_text : PlanFault → List ℕ
plan_fault_text (plans.At stage rule) = codes "stage " ++ decimal stage ++ codes ": " ++ rule_text rule
plan_fault_text plans.NoMemory = codes "out of memory"
