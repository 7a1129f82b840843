-- No answer is a fault with an out-of-memory inside it.
use Rattle.std.proofs.Common.{if◌then◌else◌, not, length, ◌≡◌, ◌∙◌, ◌+◌, ℕ, Bool, true, false, List, [], ◌∷◌, suc, Option, None, Some, Result, Ok, Err, ap, inl, inr, refl}
use Rattle.fmt_string.specs.declared.fault.FormatFault.TheVariants as format
use Rattle.data_types.specs.promise.KindTrees.{KindTree}
use Rattle.data_types.specs.promise.Ways.{Steps}
use Rattle.layout_rules.specs.promise.Walk.{Fault as ArrayFault, first_chunk_fault, first_fault}
use Rattle.raw_array.specs.promise.Members.{ArrayTree}
use Rattle.raw_schema.specs.promise.Members.{SchemaMembers, SchemaTree, members_of}
use Rattle.schema_check.specs.promise.SchemaAnswers.{FirstFault, MetaRefused, SchemaReads}
use Rattle.schema_check.specs.promise.Schemas.{DictFault, FailsHere, FaultFrom, KidFault}
use Rattle.schema_check.specs.declared.rule.SchemaRule.{SchemaRule}
use Rattle.schema_check.specs.declared.rule.SchemaRule.TheVariants as rules
use Rattle.schema_meta.specs.declared.fault.MetaFault.{MetaFault}
use Rattle.schema_meta.specs.declared.fault.MetaFault.TheVariants as meta
use Rattle.tree_model.specs.promise.TreeData.{Released, Live, Trees, no_trees, more_trees, MaybeTree, absent, present}
use Rattle.tree_model.specs.promise.TreeParts.{children_of}
use Rattle.tree_text.specs.promise.Answers.{Reads}
use Rattle.tree_text.specs.declared.fault.TextFault.{TextFault}
use Rattle.tree_text.specs.declared.fault.TextFault.TheVariants as texts
use Rattle.root_check.specs.promise.Schemas.{OwnSchemaReads}
use Rattle.root_check.specs.declared.own_schema.OwnSchemaFault.{OwnSchemaFault}
use Rattle.root_check.specs.declared.own_schema.OwnSchemaFault.TheVariants as parts
use Rattle.data_types.specs.promise.Table.{Row}
use Rattle.layout_rules.specs.promise.Values.{rows_of}
use Rattle.list_cols.specs.promise.Nested.{Explode, Nest}
use Rattle.list_cols.specs.promise.Faults as lists
use Rattle.list_cols.specs.declared.fault.ListFault.TheVariants as list_faults
use Rattle.run_ends.specs.declared.code_fault.CodeFault.TheVariants as codings
use Rattle.run_ends.specs.declared.schema_fault.RunsSchemaFault.TheVariants as run_ends
use Rattle.schema_check.specs.declared.schema.SchemaFault.TheVariants as schemas
use Rattle.union_cols.specs.declared.schema_fault.UnionSchemaFault.TheVariants as unions
use Rattle.run_ends.specs.promise.RunRules.{runs_fault}
use Rattle.run_ends.specs.RunRules.{RunsFound}
use Rattle.run_ends.specs.promise.RunSchemas as runs
use Rattle.run_ends.specs.promise.RunSchemas.{RunsReads}
use Rattle.run_ends.specs.promise.RunSchemas.{SchemaFound as RunsSchemaFound}
use Rattle.run_ends.specs.promise.Runs.{RunTree}
use Rattle.union_cols.specs.declared.tag_fault.TagFault.TheVariants as tags
use Rattle.union_cols.specs.promise.UnionRules.{union_fault}
use Rattle.union_cols.specs.UnionRules.{UnionFound}
use Rattle.union_cols.specs.promise.UnionSchemas as found
use Rattle.union_cols.specs.promise.UnionSchemas.{SchemaFound, UnionReads}
use Rattle.union_cols.specs.promise.Unions.{UnionTree}
use Rattle.tree_top.specs.promise.TextOrFault.{Answer, Fault, Text}
use Rattle.tree_top.specs.promise.Answer.{AnswerWithin, IsAnswerTo, ReadAnswer, TreesAnswer}
use Rattle.tree_check.specs.promise.Runs.{is_too_long}
use Rattle.tree_top.specs.AnswerParts.{ChunkCommand, answer_of_chunk, answer_of_kinds}
use Rattle.tree_top.specs.AnswerParts.{flat_of_schema, flat_unless}
use Rattle.tree_top.specs.AnswerParts.{chunk_of_kinds, chunk_unless}
use Rattle.tree_top.specs.AnswerParts.{exploded, lines_unless, nested, new_rows_unless, answer_of_column}
use Rattle.tree_top.specs.promise.Refusals.{union_schema_fault}
use Rattle.tree_top.specs.Refusals.{own_part_fault}
use Rattle.tree_top.specs.AnswerParts.{rows_of_kinds, rows_unless}
use Rattle.tree_top.specs.promise.RunRefusals.{runs_schema_fault}
use Rattle.tree_top.specs.RunRefusals.{runs_part_fault}
use Rattle.tree_top.specs.AnswerParts.{runs_of_array, runs_of_kinds, runs_unless}
use Rattle.tree_top.specs.AnswerParts.{tags_of_columns, tags_unless}
use Rattle.tree_top.specs.AnswerParts.{union_of_schema, union_unless}
use Rattle.tree_top.specs.promise.Faults.{has_memory_inside, rule_has_memory}
use Rattle.tree_top.specs.Faults.{is_decided}
use Rattle.tree_top.specs.MemoryFaults.{is_meta_memory, is_text_memory, memory_inside, runs_has_memory, union_has_memory}
use Rattle.tree_top.specs.declared.command.Command.{Command}
use Rattle.tree_top.specs.declared.command.Command.TheVariants as commands
use Rattle.tree_top.specs.declared.fault.TreeRunFault.{TreeRunFault}
use Rattle.tree_top.specs.declared.fault.TreeRunFault.TheVariants as run

abbrev within : Answer → Bool
within (Text text) = false
within (Fault fault) = memory_inside fault

-- ---- schemas

fails-here : (level : ℕ) (tree : SchemaTree) (rule : SchemaRule) → FailsHere level tree rule → rule_has_memory rule ≡ false
fails-here level tree rules.Deep fails = refl
fails-here level tree rules.Released fails = refl
fails-here level tree (rules.Format (format.At rule place)) fails = refl
fails-here level Released (rules.Format format.NoMemory) fails = absurd fails
fails-here level (Live s kids dict) (rules.Format format.NoMemory) fails = absurd fails
fails-here level Released (rules.Meta meta.NoMemory) fails = absurd fails
fails-here level (Live s kids dict) (rules.Meta meta.NoMemory) fails = absurd fails
fails-here level tree (rules.Meta (meta.Short place)) fails = refl
fails-here level tree (rules.Meta (meta.Negative place)) fails = refl
fails-here level tree (rules.Meta (meta.Trailing place)) fails = refl
fails-here level tree rules.ChildCount fails = refl
fails-here level tree rules.DictIndexType fails = refl
fails-here level tree rules.MapShape fails = refl

mutual
  fault-from : (level : ℕ) (tree : SchemaTree) (path : Steps) (rule : SchemaRule) → FaultFrom level tree path rule → rule_has_memory rule ≡ false
  fault-from level tree [] rule fault = fails-here level tree rule fault
  fault-from level Released (step ∷ path) rule fault = absurd fault
  fault-from level (Live s kids dict) (step ∷ path) rule fault = elim fault.1 [
    | inl kid ↦ kid-fault (level + 1) kids 0 step path rule kid
    | inr below ↦ dict-fault (level + 1) dict path rule below.2
  ]

  kid-fault : (level : ℕ) (kids : Trees SchemaMembers) (k step : ℕ) (path : Steps) (rule : SchemaRule) → KidFault level kids k step path rule
      → rule_has_memory rule ≡ false
  kid-fault level no_trees k step path rule fault = absurd fault
  kid-fault level (more_trees kid kids) k step path rule fault = elim fault [
    | inl here ↦ fault-from level kid path rule here.1
    | inr later ↦ kid-fault level kids (suc k) step path rule later.1
  ]

  dict-fault : (level : ℕ) (dict : MaybeTree SchemaMembers) (path : Steps) (rule : SchemaRule) → DictFault level dict path rule
      → rule_has_memory rule ≡ false
  dict-fault level absent path rule fault = absurd fault
  dict-fault level (present dict) path rule fault = fault-from level dict path rule fault

-- ---- rows

of-array : (typed : KindTree) (array : ArrayTree) (fault : Option ArrayFault) → within (rows_unless typed array fault) ≡ false
of-array typed array None = refl
of-array typed array (Some fault) = refl

of-kinds : (schema : SchemaTree) (array : ArrayTree) (read : Result KindTree FirstFault) → SchemaReads schema read → within (rows_of_kinds read array) ≡ false
of-kinds schema array (Ok typed) reads = of-array typed array (first_fault typed array)
of-kinds schema array (Err first) reads = fault-from 1 schema first.path first.rule reads

-- ---- chunks

of-chunk : (typed : KindTree) (array : ArrayTree) (fault : Option ArrayFault) → within (chunk_unless typed array fault) ≡ false
of-chunk typed array None = refl
of-chunk typed array (Some fault) = refl

of-chunk_kinds : (schema : SchemaTree) (array : ArrayTree) (read : Result KindTree FirstFault) → SchemaReads schema read
    → within (chunk_of_kinds read array) ≡ false
of-chunk_kinds schema array (Ok typed) reads = of-chunk typed array (first_chunk_fault typed array)
of-chunk_kinds schema array (Err first) reads = fault-from 1 schema first.path first.rule reads

module _ (said : ChunkCommand) (faultless : (typed : KindTree) (array : ArrayTree) → within (said typed array) ≡ false) where
  of-said_chunk : (typed : KindTree) (array : ArrayTree) (fault : Option ArrayFault) → within (answer_of_chunk said typed array fault) ≡ false
  of-said_chunk typed array None = faultless typed array
  of-said_chunk typed array (Some fault) = refl

  of-said : (schema : SchemaTree) (array : ArrayTree) (read : Result KindTree FirstFault) → SchemaReads schema read
      → within (answer_of_kinds said read array) ≡ false
  of-said schema array (Ok typed) reads = of-said_chunk typed array (first_chunk_fault typed array)
  of-said schema array (Err first) reads = fault-from 1 schema first.path first.rule reads

-- ---- tagged columns

of-columns : (typed : KindTree) (array : ArrayTree) (wrong long : Bool) (count : ℕ)
    → within (tags_unless typed array (if wrong then Some (tags.Columns count) else if long then Some tags.TooLong else None)) ≡ false
of-columns typed array true long count = refl
of-columns typed array false true count = refl
of-columns typed array false false count = refl

of-tags : (dense : Bool) (typed : KindTree) (array : ArrayTree) → within (tags_of_columns dense typed array) ≡ false
of-tags dense typed array = of-columns typed array _ _ (length (children_of array))

-- ---- rows made anew

of-lines : (rows : List Row) (wrong : Option ℕ) (long : Bool) → within (lines_unless rows (lists.fault_of wrong long)) ≡ false
of-lines rows (Some column) long = refl
of-lines rows None true = refl
of-lines rows None false = refl

module _ (said : KindTree → List Row → Answer) (faultless : (typed : KindTree) (rows : List Row) → within (said typed rows) ≡ false) where
  of-rows : (typed : KindTree) (array : ArrayTree) (many there : Bool) (count column : ℕ)
      → within (new_rows_unless said typed array (if many then Some (run.TooManyColumns count) else if there then None else Some (run.Column column))) ≡ false
  of-rows typed array true there count column = refl
  of-rows typed array false true count column = faultless typed (rows_of typed array)
  of-rows typed array false false count column = refl

of-exploded : (column : ℕ) (typed : KindTree) (array : ArrayTree) → within (answer_of_column column (exploded column) typed array) ≡ false
of-exploded column typed array =
    of-rows (exploded column) (λ typed rows. of-lines (Explode column rows) _ _) typed array _ _ (length (children_of typed)) column

of-nested : (column : ℕ) (typed : KindTree) (array : ArrayTree) → within (answer_of_column column (nested column) typed array) ≡ false
of-nested column typed array =
    of-rows (nested column) (λ typed rows. of-lines (Nest (length (children_of typed)) column rows) _ _) typed array _ _ (length (children_of typed)) column

-- ---- unions

of-meta : (metadata : Option (List ℕ)) (fault : MetaFault) → MetaRefused metadata fault → is_meta_memory fault ≡ false
of-meta None fault refused = absurd refused
of-meta (Some bytes) meta.NoMemory refused = absurd refused
of-meta (Some bytes) (meta.Short place) refused = refl
of-meta (Some bytes) (meta.Negative place) refused = refl
of-meta (Some bytes) (meta.Trailing place) refused = refl

of-part : (schema : SchemaTree) (fault : OwnSchemaFault) → OwnSchemaReads schema (Err fault) → union_has_memory (own_part_fault fault) ≡ false
of-part schema (parts.Meta fault) reads = of-meta (members_of schema).metadata fault reads
of-part schema parts.Dictionary reads = refl

of-union_schema : (schema : SchemaTree) (fault : SchemaFound) → UnionReads schema (Err fault) → union_has_memory (union_schema_fault fault) ≡ false
of-union_schema schema found.IsReleased fails = refl
of-union_schema schema (found.Format place) fails = refl
of-union_schema schema (found.OwnPart fault) fails = of-part schema fault fails.2
of-union_schema schema (found.ChildCount count needed) fails = refl
of-union_schema schema (found.Child fault) fails = fault-from 1 _ fault.first.path fault.first.rule fails.3.fails

of-union_array : (u : UnionTree) (array : ArrayTree) (fault : Option UnionFound) → within (union_unless u array fault) ≡ false
of-union_array u array None = refl
of-union_array u array (Some fault) = refl

of-union : (schema : SchemaTree) (array : ArrayTree) (read : Result UnionTree SchemaFound) → UnionReads schema read
    → within (union_of_schema read array) ≡ false
of-union schema array (Ok u) reads = of-union_array u array (union_fault u array)
of-union schema array (Err fault) reads = of-union_schema schema fault reads

-- ---- runs of a column

of-coded : (typed : KindTree) (array : ArrayTree) (flat long : Bool)
    → within (runs_unless typed array (if not flat then Some codings.WrongKind else if long then Some codings.TooLong else None)) ≡ false
of-coded typed array false long = refl
of-coded typed array true true = refl
of-coded typed array true false = refl

of-column : (typed : KindTree) (array : ArrayTree) (fault : Option ArrayFault) → within (runs_of_array typed array fault) ≡ false
of-column typed array None = of-coded typed array _ _
of-column typed array (Some fault) = refl

of-runs : (schema : SchemaTree) (array : ArrayTree) (read : Result KindTree FirstFault) → SchemaReads schema read → within (runs_of_kinds read array) ≡ false
of-runs schema array (Ok typed) reads = of-column typed array (first_fault typed array)
of-runs schema array (Err first) reads = fault-from 1 schema first.path first.rule reads

-- ---- run-end encoded arrays

of-runs_part : (schema : SchemaTree) (fault : OwnSchemaFault) → OwnSchemaReads schema (Err fault) → runs_has_memory (runs_part_fault fault) ≡ false
of-runs_part schema (parts.Meta fault) reads = of-meta (members_of schema).metadata fault reads
of-runs_part schema parts.Dictionary reads = refl

of-runs_schema : (schema : SchemaTree) (fault : RunsSchemaFound) → RunsReads schema (Err fault) → runs_has_memory (runs_schema_fault fault) ≡ false
of-runs_schema schema runs.IsReleased fails = refl
of-runs_schema schema runs.Format fails = refl
of-runs_schema schema (runs.OwnPart fault) fails = of-runs_part schema fault fails.1
of-runs_schema schema (runs.ChildCount count) fails = refl
of-runs_schema schema (runs.Child fault) fails = fault-from 1 _ fault.first.path fault.first.rule fails.2.fails
of-runs_schema schema runs.EndsType fails = refl

of-runs_array : (u : RunTree) (array : ArrayTree) (fault : Option RunsFound) → within (flat_unless u array fault) ≡ false
of-runs_array u array None = refl
of-runs_array u array (Some fault) = refl

of-flat : (schema : SchemaTree) (array : ArrayTree) (read : Result RunTree RunsSchemaFound) → RunsReads schema read → within (flat_of_schema read array) ≡ false
of-flat schema array (Ok u) reads = of-runs_array u array (runs_fault u array)
of-flat schema array (Err fault) reads = of-runs_schema schema fault reads

-- ---- answers

of-text : (bytes : List ℕ) (fault : TextFault) → Reads bytes (Err fault) → is_text_memory fault ≡ false
of-text bytes (texts.Line line) reads = refl
of-text bytes texts.TooManyLines reads = refl
of-text bytes texts.NoMemory reads = absurd reads

of-trees : (command : Command) (schema : SchemaTree) (array : ArrayTree) (answer : Answer) → TreesAnswer command schema array answer
    → within answer ≡ false
of-trees commands.Rows schema array answer is = ap within is.2 ∙ of-kinds schema array is.0 is.1
of-trees commands.Union schema array answer is = ap within is.2 ∙ of-union schema array is.0 is.1
of-trees (commands.Tag dense) schema array answer is = ap within is.2 ∙ of-said (tags_of_columns dense) (of-tags dense) schema array is.0 is.1
of-trees commands.Foreign schema array answer is = ap within is.2 ∙ of-chunk_kinds schema array is.0 is.1
of-trees commands.Runs schema array answer is = ap within is.2 ∙ of-runs schema array is.0 is.1
of-trees commands.Flat schema array answer is = ap within is.2 ∙ of-flat schema array is.0 is.1
of-trees (commands.Explode column) schema array answer is =
    ap within is.2 ∙ of-said (answer_of_column column (exploded column)) (of-exploded column) schema array is.0 is.1
of-trees (commands.Nest column) schema array answer is =
    ap within is.2 ∙ of-said (answer_of_column column (nested column)) (of-nested column) schema array is.0 is.1

of-read : (command : Command) (bytes : List ℕ) (read : Result (SchemaTree × ArrayTree) TextFault) (answer : Answer) → Reads bytes read
    → ReadAnswer command read answer → within answer ≡ false
of-read command bytes (Ok read) answer reads is = of-trees command read.0 read.1 answer is
of-read command bytes (Err fault) answer reads is = ap within is ∙ of-text bytes fault reads

of-within : (long : Bool) (command : Command) (bytes : List ℕ) (answer : Answer) → AnswerWithin long command bytes answer → within answer ≡ false
of-within true command bytes answer is = ap within is
of-within false command bytes answer is = of-read command bytes is.read answer is.reads is.is

of-answer : (command : Option Command) (bytes : List ℕ) (answer : Answer) → IsAnswerTo command bytes answer → within answer ≡ false
of-answer (Some command) bytes answer is = of-within (is_too_long bytes) command bytes answer is
of-answer None bytes answer is = ap within is

-- ---- faults of a run

by-parts : (fault : TreeRunFault) → has_memory_inside fault ≡ memory_inside fault
by-parts (run.Text texts.NoMemory) = refl
by-parts (run.UnionSchema (unions.Meta meta.NoMemory)) = refl
by-parts (run.UnionSchema (unions.Child child (schemas.At path rule))) = refl
by-parts (run.UnionSchema (unions.Child child schemas.NoMemory)) = refl
by-parts (run.UnionSchema unions.NoMemory) = refl
by-parts (run.Tag tags.NoMemory) = refl
by-parts (run.RunsSchema (run_ends.Meta meta.NoMemory)) = refl
by-parts (run.RunsSchema (run_ends.Child child (schemas.At path rule))) = refl
by-parts (run.RunsSchema (run_ends.Child child schemas.NoMemory)) = refl
by-parts (run.RunsSchema run_ends.NoMemory) = refl
by-parts (run.Code codings.NoMemory) = refl
by-parts (run.Lists list_faults.NoMemory) = refl
by-parts _ = refl

pub of-fault : (command : Option Command) (bytes : List ℕ) (fault : TreeRunFault) → (is_decided fault ≡ true → IsAnswerTo command bytes (Fault fault))
    → has_memory_inside fault ≡ false
of-fault command bytes (run.Text fault) answer = by-parts (run.Text fault) ∙ of-answer command bytes (Fault (run.Text fault)) (answer refl)
of-fault command bytes (run.Schema path rule) answer = by-parts (run.Schema path rule) ∙ of-answer command bytes (Fault (run.Schema path rule)) (answer refl)
of-fault command bytes (run.UnionSchema fault) answer = by-parts (run.UnionSchema fault) ∙ of-answer command bytes (Fault (run.UnionSchema fault)) (answer refl)
of-fault command bytes (run.Tag fault) answer = by-parts (run.Tag fault) ∙ of-answer command bytes (Fault (run.Tag fault)) (answer refl)
of-fault command bytes (run.RunsSchema fault) answer = by-parts (run.RunsSchema fault) ∙ of-answer command bytes (Fault (run.RunsSchema fault)) (answer refl)
of-fault command bytes (run.Code fault) answer = by-parts (run.Code fault) ∙ of-answer command bytes (Fault (run.Code fault)) (answer refl)
of-fault command bytes (run.Lists fault) answer = by-parts (run.Lists fault) ∙ of-answer command bytes (Fault (run.Lists fault)) (answer refl)
of-fault command bytes _ answer = refl
