-- The check of a text comes to one answer.
use Rattle.std.proofs.Common.{◌≡◌, ◌∙◌, ℕ, List, Result, Ok, Err, ap, refl, sym, subst}
use Rattle.fmt_string.specs.Answer.{Reads as FormatReads}
use Rattle.fmt_string.specs.declared.fault.FormatFault.{FormatFault}
use Rattle.data_types.specs.declared.kind.DataType.{DataType}
use Rattle.raw_schema.specs.promise.Members.{SchemaTree}
use Rattle.raw_array.specs.promise.Members.{ArrayTree}
use Rattle.data_types.specs.promise.KindTrees.{KindTree}
use Rattle.schema_check.specs.promise.SchemaAnswers.{FirstFault, SchemaReads}
use Rattle.tree_text.specs.promise.Answers.{Reads}
use Rattle.tree_text.specs.declared.fault.TextFault.{TextFault}
use Rattle.tree_check.specs.promise.Checks.{Checked, ChecksTo, ReadComes, TreesCome, kinds_checked}
use Rattle.tree_check.specs.declared.fault.TreeFault.TheVariants as trees
use Rattle.tree_check.proofs.SomeSchema.{some-schema}

abbrev Texts : Type 0
Texts = Result (SchemaTree × ArrayTree) TextFault

module _ (one-text : (bytes : List ℕ) (first second : Texts) → Reads bytes first → Reads bytes second → first ≡ second)
    (one-schema : (schema : SchemaTree) (first second : Result KindTree FirstFault) → SchemaReads schema first → SchemaReads schema second
    → first ≡ second) where
  one-come : (schema : SchemaTree) (array : ArrayTree) (one other : Checked) → TreesCome schema array one → TreesCome schema array other → one ≡ other
  one-come schema array one other is also = is.2 ∙ ap (λ r. kinds_checked r array) (one-schema schema is.0 also.0 is.1 also.1) ∙ sym also.2

  one-read : (read : Texts) (one other : Checked) → ReadComes read one → ReadComes read other → one ≡ other
  one-read (Ok read) one other is also = one-come read.0 read.1 one other is also
  one-read (Err fault) one other is also = is ∙ sym also

  pub one-check : (bytes : List ℕ) (one other : Checked) → ChecksTo bytes one → ChecksTo bytes other → one ≡ other
  one-check bytes one other is also =
      one-read also.read one other (subst (λ read. ReadComes read one) (one-text bytes is.read also.read is.reads also.reads) is.comes) also.comes

module _ (some-text : (bytes : List ℕ) → (read : Texts) × Reads bytes read)
    (some-format : (text : List ℕ) → (read : Result DataType FormatFault) × FormatReads text read) where
  come : (bytes : List ℕ) (read : Texts) → Reads bytes read → (checked : Checked) × ReadComes read checked
  come bytes (Ok read) reads =
      let kinds = some-schema some-format 1 read.0 reads.1.schema_fits in
      (kinds_checked kinds.0 read.1, (kinds.0, kinds.1, refl))
  come bytes (Err fault) reads = (Err (trees.Text fault), refl)

  pub some-check : (bytes : List ℕ) → (checked : Checked) × ChecksTo bytes checked
  some-check bytes =
      let read = some-text bytes in
      let checked = come bytes read.0 read.1 in
      (checked.0, record { read = read.0; reads = read.1; comes = checked.1 })
