-- The cause of a fault, and its status.
use Rattle.std.specs.Prelude.{ℕ, Bool, true, false, Option, None, Some}
use Rattle.fmt_string.specs.declared.fault.FormatFault.{FormatFault}
use Rattle.fmt_string.specs.declared.fault.FormatFault.TheVariants as format
use Rattle.schema_check.specs.declared.schema.SchemaFault.{SchemaFault}
use Rattle.schema_check.specs.declared.schema.SchemaFault.TheVariants as schemas
use Rattle.schema_check.specs.declared.rule.SchemaRule.{SchemaRule}
use Rattle.schema_check.specs.declared.rule.SchemaRule.TheVariants as rules
use Rattle.schema_meta.specs.declared.fault.MetaFault.{MetaFault}
use Rattle.schema_meta.specs.declared.fault.MetaFault.TheVariants as meta
use Rattle.tree_check.specs.promise.Runs.{Cause, OfWords, OfTree, OfLength, Reading, Writing, Memory}
use Rattle.tree_text.specs.declared.fault.TextFault.{TextFault}
use Rattle.tree_text.specs.declared.fault.TextFault.TheVariants as texts
use Rattle.list_cols.specs.declared.fault.ListFault.{ListFault}
use Rattle.list_cols.specs.declared.fault.ListFault.TheVariants as lists
use Rattle.run_ends.specs.declared.code_fault.CodeFault.{CodeFault}
use Rattle.run_ends.specs.declared.code_fault.CodeFault.TheVariants as codings
use Rattle.run_ends.specs.declared.schema_fault.RunsSchemaFault.{RunsSchemaFault}
use Rattle.run_ends.specs.declared.schema_fault.RunsSchemaFault.TheVariants as runs
use Rattle.union_cols.specs.declared.tag_fault.TagFault.{TagFault}
use Rattle.union_cols.specs.declared.tag_fault.TagFault.TheVariants as tags
use Rattle.union_cols.specs.declared.schema_fault.UnionSchemaFault.{UnionSchemaFault}
use Rattle.union_cols.specs.declared.schema_fault.UnionSchemaFault.TheVariants as unions
use Rattle.tree_top.specs.declared.fault.TreeRunFault.{TreeRunFault}
use Rattle.tree_top.specs.declared.fault.TreeRunFault.TheVariants as run

-- ---- causes

abbrev pub cause_of : TreeRunFault → Cause
cause_of run.Words = OfWords
cause_of run.InputTooLong = OfLength
cause_of run.ReadFault = Reading
cause_of (run.WriteFault taken) = Writing taken
cause_of (run.Text fault) = OfTree
cause_of (run.Schema path rule) = OfTree
cause_of (run.Layout fault) = OfTree
cause_of (run.UnionSchema fault) = OfTree
cause_of (run.Union fault) = OfTree
cause_of (run.Tag fault) = OfTree
cause_of (run.RunsSchema fault) = OfTree
cause_of (run.Runs fault) = OfTree
cause_of (run.Code fault) = OfTree
cause_of (run.TooManyColumns count) = OfTree
cause_of (run.Column column) = OfTree
cause_of (run.Lists fault) = OfTree
cause_of run.NoMemory = Memory

-- ---- out of memory inside another fault

abbrev pub rule_has_memory : SchemaRule → Bool
rule_has_memory (rules.Format format.NoMemory) = true
rule_has_memory (rules.Meta meta.NoMemory) = true
rule_has_memory _ = false

-- the types of all other faults have no such value
abbrev pub has_memory_inside : TreeRunFault → Bool
has_memory_inside (run.Text texts.NoMemory) = true
has_memory_inside (run.Schema path rule) = rule_has_memory rule
has_memory_inside (run.UnionSchema (unions.Meta meta.NoMemory)) = true
has_memory_inside (run.UnionSchema (unions.Child child (schemas.At path rule))) = rule_has_memory rule
has_memory_inside (run.UnionSchema (unions.Child child schemas.NoMemory)) = true
has_memory_inside (run.UnionSchema unions.NoMemory) = true
has_memory_inside (run.Tag tags.NoMemory) = true
has_memory_inside (run.RunsSchema (runs.Meta meta.NoMemory)) = true
has_memory_inside (run.RunsSchema (runs.Child child (schemas.At path rule))) = rule_has_memory rule
has_memory_inside (run.RunsSchema (runs.Child child schemas.NoMemory)) = true
has_memory_inside (run.RunsSchema runs.NoMemory) = true
has_memory_inside (run.Code codings.NoMemory) = true
has_memory_inside (run.Lists lists.NoMemory) = true
has_memory_inside _ = false
