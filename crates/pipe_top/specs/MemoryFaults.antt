-- Which faults of a run have an out-of-memory inside them, part by part.
use Rattle.std.specs.Prelude.{Bool, true, false}
use Rattle.fmt_string.specs.declared.fault.FormatFault.{FormatFault}
use Rattle.fmt_string.specs.declared.fault.FormatFault.TheVariants as format
use Rattle.schema_meta.specs.declared.fault.MetaFault.{MetaFault}
use Rattle.schema_meta.specs.declared.fault.MetaFault.TheVariants as meta
use Rattle.schema_check.specs.declared.rule.SchemaRule.{SchemaRule}
use Rattle.schema_check.specs.declared.rule.SchemaRule.TheVariants as rules
use Rattle.stage_model.specs.declared.fault.StageFault.{StageFault}
use Rattle.stage_model.specs.declared.fault.StageFault.TheVariants as stages
use Rattle.tree_text.specs.declared.fault.TextFault.{TextFault}
use Rattle.tree_text.specs.declared.fault.TextFault.TheVariants as texts
use Rattle.tree_check.specs.declared.fault.TreeFault.{TreeFault}
use Rattle.tree_check.specs.declared.fault.TreeFault.TheVariants as trees
use Rattle.run_model.specs.declared.fault.RunFault.{RunFault}
use Rattle.run_model.specs.declared.fault.RunFault.TheVariants as run

abbrev pub is_stage_memory : StageFault → Bool
is_stage_memory stages.NoMemory = true
is_stage_memory _ = false

abbrev pub is_text_memory : TextFault → Bool
is_text_memory texts.NoMemory = true
is_text_memory _ = false

abbrev pub is_format_memory : FormatFault → Bool
is_format_memory format.NoMemory = true
is_format_memory _ = false

abbrev pub is_meta_memory : MetaFault → Bool
is_meta_memory meta.NoMemory = true
is_meta_memory _ = false

-- of a format or of metadata
abbrev pub rule_has_memory : SchemaRule → Bool
rule_has_memory (rules.Format fault) = is_format_memory fault
rule_has_memory (rules.Meta fault) = is_meta_memory fault
rule_has_memory _ = false

abbrev pub tree_has_memory : TreeFault → Bool
tree_has_memory (trees.Text fault) = is_text_memory fault
tree_has_memory (trees.Schema path rule) = rule_has_memory rule
tree_has_memory (trees.Layout fault) = false

-- of a stage text or of a tree; the types of all other faults have no such value
abbrev pub memory_inside : RunFault → Bool
memory_inside (run.Stage number fault) = is_stage_memory fault
memory_inside (run.Tree fault) = tree_has_memory fault
memory_inside _ = false
