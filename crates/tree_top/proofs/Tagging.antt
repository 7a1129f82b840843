-- What the tagging of a chunk comes to.
use Rattle.std.proofs.Common.{◌≡◌, ◌∙◌, ◌⊎◌, ℕ, List, Option, None, Result, Ok, Err, IfOk, IfErr, inl, inr, ap, sym}
use Rattle.data_types.specs.promise.KindTrees.{KindTree}
use Rattle.layout_rules.specs.promise.Values.{rows_of}
use Rattle.raw_array.specs.promise.Members.{ArrayTree}
use Rattle.raw_schema.specs.promise.Members.{SchemaTree}
use Rattle.union_cols.specs.TagAnswers.{ChecksAsUnion, named_tag}
use Rattle.union_cols.specs.promise.Tags.{tagged_items}
use Rattle.union_cols.specs.promise.UnionSchemas.{SchemaFound, UnionReads}
use Rattle.union_cols.specs.promise.Unions.{UnionTree, union_items}
use Rattle.union_cols.specs.declared.tag_fault.TagFault.{TagFault}
use Rattle.union_cols.specs.declared.tag_fault.TagFault.TheVariants as tags
use Rattle.tree_top.specs.promise.TextOrFault.{Answer, Fault, Text}
use Rattle.tree_top.specs.Refusals.{fault_of_tag}
use Rattle.tree_top.specs.AnswerParts.{tags_unless, union_of_schema, union_unless}
use Rattle.tree_top.specs.promise.UnionAnswer.{UnionAnswer, items_text}
use Rattle.tree_top.specs.declared.fault.TreeRunFault.{TreeRunFault}
use Rattle.tree_top.specs.declared.fault.TreeRunFault.TheVariants as run
use Rattle.tree_top.proofs.Coming.{IsRefused}

-- ---- its columns

module _ (typed : KindTree) (array : ArrayTree) (fault : Option TagFault) where
  -- why they make no union
  pub columns-refused : (refused : TagFault) (told : TreeRunFault) → told ≡ fault_of_tag refused → named_tag refused ≡ fault
      → (told ≡ run.NoMemory) ⊎ (Fault told ≡ tags_unless typed array fault)
  columns-refused (tags.Columns count) told gives is = inr (ap Fault gives ∙ ap (tags_unless typed array) is)
  columns-refused tags.TooLong told gives is = inr (ap Fault gives ∙ ap (tags_unless typed array) is)
  columns-refused tags.NoMemory told gives is = inl gives

  module _ (one-union : (schema : SchemaTree) (first second : Result UnionTree SchemaFound) → UnionReads schema first → UnionReads schema second
      → first ≡ second) (schema : SchemaTree) (made : ArrayTree) (u : UnionTree) (checks : ChecksAsUnion u schema made)
      (items : union_items u made ≡ tagged_items (rows_of typed array)) (none : fault ≡ None) where
    -- a union's answer to what was made is the text of the tagged rows
    made-answer : (answer : Answer) → UnionAnswer schema made answer → answer ≡ tags_unless typed array fault
    made-answer answer is =
        is.2
        ∙ ap (λ r. union_of_schema r made) (one-union schema is.0 (Ok u) is.1 checks.reads)
        ∙ ap (union_unless u made) checks.rules
        ∙ ap (λ some. Text (items_text some)) items
        ∙ ap (tags_unless typed array) (sym none)

    pub made-text : {T E : Type 0} (text : T → List ℕ) (r : Result T E) → IfOk r (λ t. UnionAnswer schema made (Text (text t)))
        → IfOk r (λ t. Text (text t) ≡ tags_unless typed array fault)
    made-text text (Ok t) is = made-answer (Text (text t)) is
    made-text text (Err e) is = tt

    pub made-refused : {T : Type 0} (r : Result T TreeRunFault) → IfErr r (IsRefused (UnionAnswer schema made))
        → IfErr r (λ told. (told ≡ run.NoMemory) ⊎ (Fault told ≡ tags_unless typed array fault))
    made-refused (Ok t) is = tt
    made-refused (Err told) (inl memory) = inl memory
    made-refused (Err told) (inr is) = inr (made-answer (Fault told) is)
