-- Which faults of a run have an out-of-memory inside them. No run reports one of these: its out-of-memory is a fault of its own.
use Rattle.std.specs.Prelude.{Bool, true, false}
use Rattle.fmt_string.specs.declared.fault.FormatFault.{FormatFault}
use Rattle.fmt_string.specs.declared.fault.FormatFault.TheVariants as format
use Rattle.schema_meta.specs.declared.fault.MetaFault.{MetaFault}
use Rattle.schema_meta.specs.declared.fault.MetaFault.TheVariants as meta
use Rattle.schema_check.specs.declared.rule.SchemaRule.{SchemaRule}
use Rattle.schema_check.specs.declared.rule.SchemaRule.TheVariants as rules
use Rattle.stage_model.specs.declared.fault.StageFault.{StageFault}
use Rattle.stage_model.specs.declared.fault.StageFault.TheVariants as stages
use Rattle.tree_text.specs.declared.fault.TextFault.{TextFault}
use Rattle.tree_text.specs.declared.fault.TextFault.TheVariants as texts
use Rattle.tree_check.specs.declared.fault.TreeFault.{TreeFault}
use Rattle.tree_check.specs.declared.fault.TreeFault.TheVariants as trees
use Rattle.run_model.specs.declared.fault.RunFault.{RunFault}
use Rattle.run_model.specs.declared.fault.RunFault.TheVariants as run

-- of a stage text or of a tree; the types of all other faults have no such value
abbrev pub has_memory_inside : RunFault → Bool
has_memory_inside (run.Stage number stages.NoMemory) = true
has_memory_inside (run.Tree (trees.Text texts.NoMemory)) = true
has_memory_inside (run.Tree (trees.Schema path (rules.Format format.NoMemory))) = true
has_memory_inside (run.Tree (trees.Schema path (rules.Meta meta.NoMemory))) = true
has_memory_inside _ = false
