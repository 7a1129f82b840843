-- What is answered to a chunk.
use Rattle.std.proofs.Common.{◌≡◌, ◌∙◌, ◌⊎◌, ℕ, List, None, Some, Result, Ok, Err, IfOk, IfErr, inl, inr, ap, sym}
use Rattle.data_types.specs.promise.KindTrees.{KindTree}
use Rattle.data_types.specs.promise.Ways.{steps_of}
use Rattle.layout_rules.specs.Found.{fault_of}
use Rattle.layout_rules.specs.promise.Walk.{first_chunk_fault}
use Rattle.layout_rules.specs.declared.rule.LayoutFault.{LayoutFault}
use Rattle.raw_array.specs.promise.Members.{ArrayTree}
use Rattle.raw_schema.specs.promise.Members.{SchemaTree}
use Rattle.schema_check.specs.promise.SchemaAnswers.{FirstFault}
use Rattle.schema_check.specs.SchemaAnswers.{IsFirstFault}
use Rattle.schema_check.specs.promise.Schemas.{TypedOf}
use Rattle.schema_check.specs.declared.schema.SchemaFault.{SchemaFault}
use Rattle.schema_check.specs.declared.schema.SchemaFault.TheVariants as schemas
use Rattle.tree_check.specs.Checks.{array_refused, schema_refused}
use Rattle.tree_check.specs.declared.fault.CheckFault.{CheckFault}
use Rattle.tree_top.specs.promise.ChunkAnswer.{ChunkAnswer}
use Rattle.tree_top.specs.AnswerParts.{ChunkCommand, answer_of_chunk}
use Rattle.tree_top.specs.Refusals.{fault_of_check}
use Rattle.tree_top.specs.promise.TextOrFault.{Answer, Fault, Text}
use Rattle.tree_top.specs.declared.fault.TreeRunFault.{TreeRunFault}
use Rattle.tree_top.specs.declared.fault.TreeRunFault.TheVariants as run

module _ (schema : SchemaTree) (array : ArrayTree) where
  -- whatever is said of chunks, this fault is the answer
  abbrev pub IsChunkFault : TreeRunFault → Type 0
  IsChunkFault told = (told ≡ run.NoMemory) ⊎ ((said : ChunkCommand) → ChunkAnswer said schema array (Fault told))

  -- that of the schema
  pub chunk_schema-refused : (fault : SchemaFault) (checked : CheckFault) (told : TreeRunFault) → checked ≡ schema_refused fault → told ≡ fault_of_check checked
      → IsFirstFault schema fault → IsChunkFault told
  chunk_schema-refused (schemas.At path rule) checked told same gives is =
      let first : FirstFault = record { path = steps_of path; rule = rule } in
      inr (λ said. (Err first, is, ap Fault (gives ∙ ap fault_of_check same)))
  chunk_schema-refused schemas.NoMemory checked told same gives is = inl (gives ∙ ap fault_of_check same)

  module _ (typed : KindTree) (kinds : TypedOf schema typed) where
    -- that of the array
    pub chunk-refused : (fault : LayoutFault) (checked : CheckFault) (told : TreeRunFault) → checked ≡ array_refused fault → told ≡ fault_of_check checked
        → first_chunk_fault typed array ≡ Some (fault_of fault) → IsChunkFault told
    chunk-refused fault checked told same gives is =
        inr (λ said. (Ok typed, kinds, ap Fault (gives ∙ ap fault_of_check same) ∙ ap (answer_of_chunk said typed array) (sym is)))

    -- what is said of a chunk that has none
    module _ (passed : first_chunk_fault typed array ≡ None) (said : ChunkCommand) where
      pub chunk-is : (answer : Answer) → answer ≡ said typed array → ChunkAnswer said schema array answer
      chunk-is answer is = (Ok typed, kinds, is ∙ ap (answer_of_chunk said typed array) (sym passed))

      pub chunk-text : {T E : Type 0} (text : T → List ℕ) (r : Result T E) → IfOk r (λ t. Text (text t) ≡ said typed array)
          → IfOk r (λ t. ChunkAnswer said schema array (Text (text t)))
      chunk-text text (Ok t) is = chunk-is (Text (text t)) is
      chunk-text text (Err e) is = tt

      pub chunk-fault : {T : Type 0} (r : Result T TreeRunFault) → IfErr r (λ fault. (fault ≡ run.NoMemory) ⊎ (Fault fault ≡ said typed array))
          → IfErr r (λ fault. (fault ≡ run.NoMemory) ⊎ ChunkAnswer said schema array (Fault fault))
      chunk-fault (Ok t) is = tt
      chunk-fault (Err fault) (inl none) = inl none
      chunk-fault (Err fault) (inr is) = inr (chunk-is (Fault fault) is)

-- of all that may be said one
pub said-one : {X Y : Type 0} {P : Y → Type 0} (y : Y) → X ⊎ ((y : Y) → P y) → X ⊎ P y
said-one y (inl memory) = inl memory
said-one y (inr each) = inr (each y)
