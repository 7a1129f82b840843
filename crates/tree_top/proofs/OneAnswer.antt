-- A command and bytes have one answer.
use Rattle.std.proofs.Common.{◌≡◌, ◌∙◌, ℕ, Bool, true, false, List, Option, None, Some, Result, Ok, Err, ap, refl, subst, sym}
use Rattle.data_types.specs.promise.KindTrees.{KindTree}
use Rattle.raw_array.specs.promise.Members.{ArrayTree}
use Rattle.raw_schema.specs.promise.Members.{SchemaTree}
use Rattle.schema_check.specs.promise.SchemaAnswers.{FirstFault, SchemaReads}
use Rattle.tree_text.specs.promise.Answers.{Reads}
use Rattle.tree_text.specs.declared.fault.TextFault.{TextFault}
use Rattle.tree_text.specs.TreeText.{SchemaFits}
use Rattle.union_cols.specs.promise.UnionSchemas.{SchemaFound, UnionReads}
use Rattle.union_cols.specs.promise.Unions.{UnionTree}
use Rattle.tree_top.specs.promise.TextOrFault.{Answer, Fault}
use Rattle.tree_top.specs.promise.Answer.{AnswerWithin, IsAnswerTo, ReadAnswer, TextAnswer, TreesAnswer}
use Rattle.tree_check.specs.promise.Runs.{is_too_long}
use Rattle.run_ends.specs.promise.RunSchemas.{RunsReads}
use Rattle.run_ends.specs.promise.RunSchemas.{SchemaFound as RunsSchemaFound}
use Rattle.run_ends.specs.promise.Runs.{RunTree}
use Rattle.tree_top.specs.promise.ChunkAnswer.{ChunkAnswer}
use Rattle.tree_top.specs.AnswerParts.{ChunkCommand, answer_of_kinds}
use Rattle.tree_top.specs.promise.FlatAnswer.{FlatAnswer}
use Rattle.tree_top.specs.AnswerParts.{flat_of_schema}
use Rattle.tree_top.specs.promise.ForeignAnswer.{ForeignAnswer}
use Rattle.tree_top.specs.AnswerParts.{chunk_of_kinds}
use Rattle.tree_top.specs.AnswerParts.{answer_of_column, exploded, nested, rows_of_kinds}
use Rattle.tree_top.specs.promise.RowsAnswer.{RowsAnswer}
use Rattle.tree_top.specs.promise.RunsAnswer.{RunsAnswer}
use Rattle.tree_top.specs.AnswerParts.{runs_of_kinds}
use Rattle.tree_top.specs.AnswerParts.{tags_of_columns}
use Rattle.tree_top.specs.promise.UnionAnswer.{UnionAnswer}
use Rattle.tree_top.specs.AnswerParts.{union_of_schema}
use Rattle.tree_top.proofs.SomeRuns.{some-runs}
use Rattle.tree_top.proofs.SomeUnion.{SomeFormat, SomeKinds, SomeMetadata, some-union}
use Rattle.tree_top.specs.declared.command.Command.{Command}
use Rattle.tree_top.specs.declared.command.Command.TheVariants as commands
use Rattle.tree_top.specs.declared.fault.TreeRunFault.TheVariants as run

abbrev Texts : Type 0
Texts = Result (SchemaTree × ArrayTree) TextFault

-- ---- there is one

module _ (some-reading : (bytes : List ℕ) → (read : Texts) × Reads bytes read) (some-format : SomeFormat) (some-kinds : SomeKinds)
    (some-metadata : SomeMetadata) where
  some-chunk : (said : ChunkCommand) (schema : SchemaTree) (array : ArrayTree) → SchemaFits 1 schema → (answer : Answer) × ChunkAnswer said schema array answer
  some-chunk said schema array fits =
      let read = some-kinds 1 schema fits in
      (answer_of_kinds said read.0 array, (read.0, read.1, refl))

  some-trees : (command : Command) (schema : SchemaTree) (array : ArrayTree) → SchemaFits 1 schema → (answer : Answer) × TreesAnswer command schema array answer
  some-trees commands.Rows schema array fits =
      let read = some-kinds 1 schema fits in
      (rows_of_kinds read.0 array, (read.0, read.1, refl))
  some-trees commands.Union schema array fits =
      let read = some-union some-format some-kinds some-metadata 1 schema fits in
      (union_of_schema read.0 array, (read.0, read.1, refl))
  some-trees (commands.Tag dense) schema array fits = some-chunk (tags_of_columns dense) schema array fits
  some-trees commands.Foreign schema array fits =
      let read = some-kinds 1 schema fits in
      (chunk_of_kinds read.0 array, (read.0, read.1, refl))
  some-trees commands.Runs schema array fits =
      let read = some-kinds 1 schema fits in
      (runs_of_kinds read.0 array, (read.0, read.1, refl))
  some-trees commands.Flat schema array fits =
      let read = some-runs some-kinds some-metadata 1 schema fits in
      (flat_of_schema read.0 array, (read.0, read.1, refl))
  some-trees (commands.Explode column) schema array fits = some-chunk (answer_of_column column (exploded column)) schema array fits
  some-trees (commands.Nest column) schema array fits = some-chunk (answer_of_column column (nested column)) schema array fits

  some-read : (command : Command) (bytes : List ℕ) (read : Texts) → Reads bytes read → (answer : Answer) × ReadAnswer command read answer
  some-read command bytes (Ok read) reads = some-trees command read.0 read.1 reads.1.schema_fits
  some-read command bytes (Err fault) reads = (Fault (run.Text fault), refl)

  some-text : (command : Command) (bytes : List ℕ) → (answer : Answer) × TextAnswer command bytes answer
  some-text command bytes =
      let read = some-reading bytes in
      let answer = some-read command bytes read.0 read.1 in
      (answer.0, record { read = read.0; reads = read.1; is = answer.1 })

  some-within : (long : Bool) (command : Command) (bytes : List ℕ) → (answer : Answer) × AnswerWithin long command bytes answer
  some-within true command bytes = (Fault run.InputTooLong, refl)
  some-within false command bytes = some-text command bytes

  pub some-answer : (command : Option Command) (bytes : List ℕ) → (answer : Answer) × IsAnswerTo command bytes answer
  some-answer (Some command) bytes = some-within (is_too_long bytes) command bytes
  some-answer None bytes = (Fault run.Words, refl)

-- ---- there is no other

module _ (one-text : (bytes : List ℕ) (first second : Texts) → Reads bytes first → Reads bytes second → first ≡ second)
    (one-schema : (schema : SchemaTree) (first second : Result KindTree FirstFault) → SchemaReads schema first → SchemaReads schema second
    → first ≡ second)
    (one-union : (schema : SchemaTree) (first second : Result UnionTree SchemaFound) → UnionReads schema first → UnionReads schema second → first ≡ second)
    (one-runs : (schema : SchemaTree) (first second : Result RunTree RunsSchemaFound) → RunsReads schema first → RunsReads schema second → first ≡ second) where
  one-rows : (schema : SchemaTree) (array : ArrayTree) (one other : Answer) → RowsAnswer schema array one → RowsAnswer schema array other → one ≡ other
  one-rows schema array one other is also = is.2 ∙ ap (λ r. rows_of_kinds r array) (one-schema schema is.0 also.0 is.1 also.1) ∙ sym also.2

  one-union-answer : (schema : SchemaTree) (array : ArrayTree) (one other : Answer) → UnionAnswer schema array one → UnionAnswer schema array other → one ≡ other
  one-union-answer schema array one other is also =
      is.2 ∙ ap (λ r. union_of_schema r array) (one-union schema is.0 also.0 is.1 also.1) ∙ sym also.2

  one-foreign : (schema : SchemaTree) (array : ArrayTree) (one other : Answer) → ForeignAnswer schema array one → ForeignAnswer schema array other → one ≡ other
  one-foreign schema array one other is also = is.2 ∙ ap (λ r. chunk_of_kinds r array) (one-schema schema is.0 also.0 is.1 also.1) ∙ sym also.2

  one-chunk : (said : ChunkCommand) (schema : SchemaTree) (array : ArrayTree) (one other : Answer) → ChunkAnswer said schema array one
      → ChunkAnswer said schema array other → one ≡ other
  one-chunk said schema array one other is also =
      is.2 ∙ ap (λ r. answer_of_kinds said r array) (one-schema schema is.0 also.0 is.1 also.1) ∙ sym also.2

  one-runs-answer : (schema : SchemaTree) (array : ArrayTree) (one other : Answer) → RunsAnswer schema array one → RunsAnswer schema array other → one ≡ other
  one-runs-answer schema array one other is also = is.2 ∙ ap (λ r. runs_of_kinds r array) (one-schema schema is.0 also.0 is.1 also.1) ∙ sym also.2

  one-flat : (schema : SchemaTree) (array : ArrayTree) (one other : Answer) → FlatAnswer schema array one → FlatAnswer schema array other → one ≡ other
  one-flat schema array one other is also = is.2 ∙ ap (λ r. flat_of_schema r array) (one-runs schema is.0 also.0 is.1 also.1) ∙ sym also.2

  one-trees : (command : Command) (schema : SchemaTree) (array : ArrayTree) (one other : Answer) → TreesAnswer command schema array one
      → TreesAnswer command schema array other → one ≡ other
  one-trees commands.Rows schema array one other is also = one-rows schema array one other is also
  one-trees commands.Union schema array one other is also = one-union-answer schema array one other is also
  one-trees (commands.Tag dense) schema array one other is also = one-chunk (tags_of_columns dense) schema array one other is also
  one-trees commands.Foreign schema array one other is also = one-foreign schema array one other is also
  one-trees commands.Runs schema array one other is also = one-runs-answer schema array one other is also
  one-trees commands.Flat schema array one other is also = one-flat schema array one other is also
  one-trees (commands.Explode column) schema array one other is also = one-chunk (answer_of_column column (exploded column)) schema array one other is also
  one-trees (commands.Nest column) schema array one other is also = one-chunk (answer_of_column column (nested column)) schema array one other is also

  one-read : (command : Command) (read : Texts) (one other : Answer) → ReadAnswer command read one → ReadAnswer command read other → one ≡ other
  one-read command (Ok read) one other is also = one-trees command read.0 read.1 one other is also
  one-read command (Err fault) one other is also = is ∙ sym also

  one-text-answer : (command : Command) (bytes : List ℕ) (one other : Answer) → TextAnswer command bytes one → TextAnswer command bytes other
      → one ≡ other
  one-text-answer command bytes one other is also =
      one-read command also.read one other
      (subst (λ read. ReadAnswer command read one) (one-text bytes is.read also.read is.reads also.reads) is.is) also.is

  one-within : (long : Bool) (command : Command) (bytes : List ℕ) (one other : Answer) → AnswerWithin long command bytes one
      → AnswerWithin long command bytes other → one ≡ other
  one-within true command bytes one other is also = is ∙ sym also
  one-within false command bytes one other is also = one-text-answer command bytes one other is also

  pub one-answer : (command : Option Command) (bytes : List ℕ) (one other : Answer) → IsAnswerTo command bytes one → IsAnswerTo command bytes other
      → one ≡ other
  one-answer (Some command) bytes one other is also = one-within (is_too_long bytes) command bytes one other is also
  one-answer None bytes one other is also = is ∙ sym also
