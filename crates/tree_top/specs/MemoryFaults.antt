-- Which faults of a run have an out-of-memory inside them, part by part.
use Rattle.std.specs.Prelude.{Bool, true, false}
use Rattle.fmt_string.specs.declared.fault.FormatFault.{FormatFault}
use Rattle.schema_check.specs.declared.schema.SchemaFault.{SchemaFault}
use Rattle.schema_check.specs.declared.schema.SchemaFault.TheVariants as schemas
use Rattle.schema_check.specs.declared.rule.SchemaRule.{SchemaRule}
use Rattle.schema_meta.specs.declared.fault.MetaFault.{MetaFault}
use Rattle.schema_meta.specs.declared.fault.MetaFault.TheVariants as meta
use Rattle.tree_text.specs.declared.fault.TextFault.{TextFault}
use Rattle.tree_text.specs.declared.fault.TextFault.TheVariants as texts
use Rattle.list_cols.specs.declared.fault.ListFault.{ListFault}
use Rattle.list_cols.specs.declared.fault.ListFault.TheVariants as lists
use Rattle.run_ends.specs.declared.code_fault.CodeFault.{CodeFault}
use Rattle.run_ends.specs.declared.code_fault.CodeFault.TheVariants as codings
use Rattle.run_ends.specs.declared.schema_fault.RunsSchemaFault.{RunsSchemaFault}
use Rattle.run_ends.specs.declared.schema_fault.RunsSchemaFault.TheVariants as runs
use Rattle.union_cols.specs.declared.tag_fault.TagFault.{TagFault}
use Rattle.union_cols.specs.declared.tag_fault.TagFault.TheVariants as tags
use Rattle.union_cols.specs.declared.schema_fault.UnionSchemaFault.{UnionSchemaFault}
use Rattle.union_cols.specs.declared.schema_fault.UnionSchemaFault.TheVariants as unions
use Rattle.tree_top.specs.declared.fault.TreeRunFault.{TreeRunFault}
use Rattle.tree_top.specs.declared.fault.TreeRunFault.TheVariants as run
use Rattle.tree_top.specs.promise.Faults.{rule_has_memory}

abbrev pub is_text_memory : TextFault → Bool
is_text_memory texts.NoMemory = true
is_text_memory _ = false

abbrev pub is_meta_memory : MetaFault → Bool
is_meta_memory meta.NoMemory = true
is_meta_memory _ = false

abbrev pub schema_has_memory : SchemaFault → Bool
schema_has_memory (schemas.At path rule) = rule_has_memory rule
schema_has_memory schemas.NoMemory = true

abbrev pub union_has_memory : UnionSchemaFault → Bool
union_has_memory (unions.Meta fault) = is_meta_memory fault
union_has_memory (unions.Child child fault) = schema_has_memory fault
union_has_memory unions.NoMemory = true
union_has_memory _ = false

abbrev pub is_tag_memory : TagFault → Bool
is_tag_memory tags.NoMemory = true
is_tag_memory _ = false

abbrev pub runs_has_memory : RunsSchemaFault → Bool
runs_has_memory (runs.Meta fault) = is_meta_memory fault
runs_has_memory (runs.Child child fault) = schema_has_memory fault
runs_has_memory runs.NoMemory = true
runs_has_memory _ = false

abbrev pub is_code_memory : CodeFault → Bool
is_code_memory codings.NoMemory = true
is_code_memory _ = false

abbrev pub is_list_memory : ListFault → Bool
is_list_memory lists.NoMemory = true
is_list_memory _ = false

-- the types of all other faults have no such value
abbrev pub memory_inside : TreeRunFault → Bool
memory_inside (run.Text fault) = is_text_memory fault
memory_inside (run.Schema path rule) = rule_has_memory rule
memory_inside (run.UnionSchema fault) = union_has_memory fault
memory_inside (run.Tag fault) = is_tag_memory fault
memory_inside (run.RunsSchema fault) = runs_has_memory fault
memory_inside (run.Code fault) = is_code_memory fault
memory_inside (run.Lists fault) = is_list_memory fault
memory_inside _ = false
