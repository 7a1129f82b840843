-- The answers of commands, part by part.
use Rattle.std.specs.Prelude.{ℕ, Bool, List, length, map, Option, Result}
use Rattle.data_types.specs.promise.KindTrees.{KindTree}
use Rattle.data_types.specs.promise.Table.{Row}
use Rattle.data_types.specs.promise.Value.{Value}
use Rattle.data_types.specs.promise.ValueTexts.{lines_text}
use Rattle.layout_rules.specs.promise.Layout.{natural}
use Rattle.layout_rules.specs.promise.Values.{rows_of, tree_items, values_of}
use Rattle.layout_rules.specs.promise.Walk.{Fault as ArrayFault, first_chunk_fault, first_fault}
use Rattle.list_cols.specs.promise.Faults.{explode_fault}
use Rattle.list_cols.specs.promise.NestFaults.{nest_fault}
use Rattle.list_cols.specs.promise.Nested.{Explode, Nest}
use Rattle.list_cols.specs.declared.fault.ListFault.{ListFault}
use Rattle.raw_array.specs.promise.Members.{ArrayTree}
use Rattle.run_ends.specs.promise.CodeFaults.{code_fault}
use Rattle.run_ends.specs.promise.RunCoding.{Run}
use Rattle.run_ends.specs.promise.RunRules.{runs_fault}
use Rattle.run_ends.specs.RunRules.{RunsFound}
use Rattle.run_ends.specs.promise.RunSchemas.{SchemaFound as RunsSchemaFound}
use Rattle.run_ends.specs.promise.Runs.{RunTree, run_values}
use Rattle.run_ends.specs.declared.code_fault.CodeFault.{CodeFault}
use Rattle.schema_check.specs.promise.SchemaAnswers.{FirstFault}
use Rattle.tree_model.specs.promise.TreeParts.{children_of}
use Rattle.union_cols.specs.promise.Tags.{tag_fault, tagged_items}
use Rattle.union_cols.specs.declared.tag_fault.TagFault.{TagFault}
use Rattle.union_cols.specs.promise.UnionRules.{union_fault}
use Rattle.union_cols.specs.UnionRules.{UnionFound}
use Rattle.union_cols.specs.promise.UnionSchemas.{SchemaFound}
use Rattle.union_cols.specs.promise.Unions.{UnionItem, UnionTree, union_items}
use Rattle.tree_top.specs.promise.ForeignAnswer.{row_value}
use Rattle.tree_top.specs.promise.ListsAnswer.{column_fault}
use Rattle.tree_top.specs.promise.Refusals.{layout_told, schema_told, union_fault_told, union_schema_fault}
use Rattle.tree_top.specs.promise.RunRefusals.{runs_fault_told, runs_schema_fault}
use Rattle.tree_top.specs.promise.RunsAnswer.{runs_text}
use Rattle.tree_top.specs.promise.TextOrFault.{Answer, Text, by, unless}
use Rattle.tree_top.specs.promise.UnionAnswer.{items_text}
use Rattle.tree_top.specs.declared.fault.TreeRunFault.{TreeRunFault}
use Rattle.tree_top.specs.declared.fault.TreeRunFault.TheVariants as run

-- ---- arrays of any kind

abbrev pub rows_unless : KindTree → ArrayTree → Option ArrayFault → Answer
rows_unless typed array found = unless layout_told found (Text (lines_text (values_of typed array)))

abbrev pub rows_of_kinds : Result KindTree FirstFault → ArrayTree → Answer
rows_of_kinds read array = by schema_told read (λ typed. rows_unless typed array (first_fault typed array))

-- ---- chunks

-- what a command says of an array of these kinds
abbrev pub ChunkCommand : Type 0
ChunkCommand = KindTree → ArrayTree → Answer

abbrev pub answer_of_chunk : ChunkCommand → KindTree → ArrayTree → Option ArrayFault → Answer
answer_of_chunk said typed array found = unless layout_told found (said typed array)

abbrev pub answer_of_kinds : ChunkCommand → Result KindTree FirstFault → ArrayTree → Answer
answer_of_kinds said read array = by schema_told read (λ typed. answer_of_chunk said typed array (first_chunk_fault typed array))

abbrev pub chunk_unless : KindTree → ArrayTree → Option ArrayFault → Answer
chunk_unless typed array found = unless layout_told found (Text (lines_text (values_of typed array)))

abbrev pub chunk_of_kinds : Result KindTree FirstFault → ArrayTree → Answer
chunk_of_kinds read array = by schema_told read (λ typed. chunk_unless typed array (first_chunk_fault typed array))

-- ---- tagged columns

abbrev pub tags_unless : KindTree → ArrayTree → Option TagFault → Answer
tags_unless typed array found = unless run.Tag found (Text (items_text (tagged_items (rows_of typed array))))

abbrev pub tags_of_columns : Bool → KindTree → ArrayTree → Answer
tags_of_columns dense typed array = tags_unless typed array (tag_fault dense (length (children_of array)) (tree_items array))

-- ---- rows made anew

abbrev pub lines_unless : List Row → Option ListFault → Answer
lines_unless rows found = unless run.Lists found (Text (lines_text (map row_value rows)))

abbrev pub new_rows_unless : (KindTree → List Row → Answer) → KindTree → ArrayTree → Option TreeRunFault → Answer
new_rows_unless said typed array found = unless (λ wrong. wrong) found (said typed (rows_of typed array))

abbrev pub answer_of_column : ℕ → (KindTree → List Row → Answer) → KindTree → ArrayTree → Answer
answer_of_column column said typed array = new_rows_unless said typed array (column_fault column (length (children_of typed)))

abbrev pub exploded : ℕ → KindTree → List Row → Answer
exploded column typed rows = lines_unless (Explode column rows) (explode_fault column typed rows)

abbrev pub nested : ℕ → KindTree → List Row → Answer
nested column typed rows = lines_unless (Nest (length (children_of typed)) column rows) (nest_fault column typed rows)

-- ---- unions

abbrev pub numbered_item : UnionItem → ℕ × Value
numbered_item item = (natural item.id, item.value)

abbrev pub union_unless : UnionTree → ArrayTree → Option UnionFound → Answer
union_unless u array found = unless (λ fault. run.Union (union_fault_told fault)) found (Text (items_text (union_items u array)))

abbrev pub union_of_schema : Result UnionTree SchemaFound → ArrayTree → Answer
union_of_schema read array = by (λ fault. run.UnionSchema (union_schema_fault fault)) read (λ u. union_unless u array (union_fault u array))

-- ---- runs

abbrev pub numbered_run : Run → ℕ × Value
numbered_run run = (run.stop, run.value)

abbrev pub runs_unless : KindTree → ArrayTree → Option CodeFault → Answer
runs_unless typed array found = unless run.Code found (Text (runs_text (values_of typed array)))

abbrev pub runs_of_column : KindTree → ArrayTree → Answer
runs_of_column typed array = runs_unless typed array (code_fault typed (tree_items array))

abbrev pub runs_of_array : KindTree → ArrayTree → Option ArrayFault → Answer
runs_of_array typed array found = unless layout_told found (runs_of_column typed array)

abbrev pub runs_of_kinds : Result KindTree FirstFault → ArrayTree → Answer
runs_of_kinds read array = by schema_told read (λ typed. runs_of_array typed array (first_fault typed array))

-- ---- run-end encoded arrays

abbrev pub flat_unless : RunTree → ArrayTree → Option RunsFound → Answer
flat_unless u array found = unless (λ fault. run.Runs (runs_fault_told fault)) found (Text (lines_text (run_values u array)))

abbrev pub flat_of_schema : Result RunTree RunsSchemaFound → ArrayTree → Answer
flat_of_schema read array = by (λ fault. run.RunsSchema (runs_schema_fault fault)) read (λ u. flat_unless u array (runs_fault u array))
