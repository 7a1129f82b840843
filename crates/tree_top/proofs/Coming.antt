-- What a command answers, from what its parts come to.
use Rattle.std.proofs.Common.{◌≡◌, ◌≢◌, ◌⊎◌, ◌∙◌, ℕ, List, None, Some, Result, Ok, Err, IfOk, IfErr, inl, inr, ap, sym, refl, subst}
use Rattle.data_types.specs.promise.KindTrees.{KindTree}
use Rattle.data_types.specs.promise.Ways.{steps_of}
use Rattle.layout_rules.specs.Found.{fault_of}
use Rattle.layout_rules.specs.promise.Values.{values_of}
use Rattle.layout_rules.specs.promise.Walk.{first_fault}
use Rattle.layout_rules.specs.declared.rule.LayoutFault.{LayoutFault}
use Rattle.raw_array.specs.promise.Members.{ArrayTree}
use Rattle.raw_schema.specs.promise.Members.{SchemaTree}
use Rattle.schema_check.specs.promise.SchemaAnswers.{FirstFault, SchemaReads}
use Rattle.schema_check.specs.SchemaAnswers.{IsFirstFault}
use Rattle.schema_check.specs.promise.Schemas.{TypedOf}
use Rattle.schema_check.specs.declared.schema.SchemaFault.{SchemaFault}
use Rattle.schema_check.specs.declared.schema.SchemaFault.TheVariants as schemas
use Rattle.tree_check.specs.Checks.{schema_fault}
use Rattle.tree_check.specs.Checks.{array_refused, schema_refused, text_refused}
use Rattle.tree_check.specs.declared.fault.CheckFault.{CheckFault}
use Rattle.tree_text.specs.promise.Answers.{Reads}
use Rattle.tree_text.specs.declared.fault.TextFault.{TextFault}
use Rattle.tree_text.specs.declared.fault.TextFault.TheVariants as texts
use Rattle.data_types.specs.promise.ValueTexts.{lines_text}
use Rattle.union_cols.specs.UnionAnswers.{FailsIf, IsUnionFault, found_of, named}
use Rattle.union_cols.specs.promise.UnionRules.{union_fault}
use Rattle.union_cols.specs.promise.UnionSchemas as found
use Rattle.union_cols.specs.promise.UnionSchemas.{UnionOf}
use Rattle.union_cols.specs.promise.Unions.{UnionTree, union_items}
use Rattle.union_cols.specs.declared.rule.UnionFault.{UnionFault}
use Rattle.union_cols.specs.declared.schema_fault.UnionSchemaFault.{UnionSchemaFault}
use Rattle.union_cols.specs.declared.schema_fault.UnionSchemaFault.TheVariants as unions
use Rattle.root_check.specs.declared.own_schema.OwnSchemaFault.TheVariants as parts
use Rattle.tree_top.specs.promise.TextOrFault.{Answer, Fault, Text}
use Rattle.tree_top.specs.promise.Answer.{TextAnswer, TreesAnswer}
use Rattle.tree_top.specs.promise.RowsAnswer.{RowsAnswer}
use Rattle.tree_top.specs.AnswerParts.{rows_unless, union_unless}
use Rattle.tree_top.specs.promise.UnionAnswer.{UnionAnswer, items_text}
use Rattle.tree_top.specs.promise.Refusals.{union_fault_told}
use Rattle.tree_top.specs.Refusals.{fault_of_check, fault_of_tree, fault_of_union_schema}
use Rattle.tree_top.specs.declared.command.Command.{Command}
use Rattle.tree_top.specs.declared.fault.TreeRunFault.{TreeRunFault}
use Rattle.tree_top.specs.declared.fault.TreeRunFault.TheVariants as run

-- a fault is that of an answer, or out of memory
abbrev pub IsRefused : (Answer → Type 0) → TreeRunFault → Type 0
IsRefused IsAnswer fault = (fault ≡ run.NoMemory) ⊎ IsAnswer (Fault fault)

-- by way of the check's fault
told-by : (IsAnswer : Answer → Type 0) (told : TreeRunFault) (checked refused : CheckFault) → told ≡ fault_of_check checked → checked ≡ refused
    → IsRefused IsAnswer (fault_of_check refused) → IsRefused IsAnswer told
told-by IsAnswer told checked refused gives same is = subst (IsRefused IsAnswer) (sym (gives ∙ ap fault_of_check same)) is

-- the answer that the kinds of a schema, or its first fault, give
abbrev pub KindsAnswer : (Result KindTree FirstFault → Answer) → SchemaTree → Answer → Type 0
KindsAnswer given schema answer = (read : Result KindTree FirstFault) × SchemaReads schema read × (answer ≡ given read)

module _ (given : Result KindTree FirstFault → Answer) (refuses : (first : FirstFault) → given (Err first) ≡ Fault (fault_of_tree (schema_fault first)))
    (schema : SchemaTree) where
  schema-comes : (fault : SchemaFault) → IsFirstFault schema fault → IsRefused (KindsAnswer given schema) (fault_of_check (schema_refused fault))
  schema-comes (schemas.At path rule) is =
      let first : FirstFault = record { path = steps_of path; rule = rule } in
      inr (Err first, is, sym (refuses first))
  schema-comes schemas.NoMemory is = inl refl

  -- the fault of a schema
  pub schema-refused : (fault : SchemaFault) (checked : CheckFault) (told : TreeRunFault) → checked ≡ schema_refused fault → told ≡ fault_of_check checked
      → IsFirstFault schema fault → IsRefused (KindsAnswer given schema) told
  schema-refused fault checked told same gives is = told-by (KindsAnswer given schema) told checked (schema_refused fault) gives same (schema-comes fault is)

  -- what comes of kinds
  module _ (typed : KindTree) (kinds : TypedOf schema typed) where
    pub kinds-answer : {T E : Type 0} (text : T → List ℕ) (r : Result T E) → IfOk r (λ t. Text (text t) ≡ given (Ok typed))
        → IfOk r (λ t. KindsAnswer given schema (Text (text t)))
    kinds-answer text (Ok t) is = (Ok typed, kinds, is)
    kinds-answer text (Err e) is = tt

    pub kinds-refused : {T : Type 0} (r : Result T TreeRunFault) → IfErr r (λ fault. (fault ≡ run.NoMemory) ⊎ (Fault fault ≡ given (Ok typed)))
        → IfErr r (λ fault. (fault ≡ run.NoMemory) ⊎ KindsAnswer given schema (Fault fault))
    kinds-refused (Ok t) is = tt
    kinds-refused (Err fault) (inl none) = inl none
    kinds-refused (Err fault) (inr is) = inr (Ok typed, kinds, is)

module _ (schema : SchemaTree) (array : ArrayTree) where
  module _ (typed : KindTree) (kinds : TypedOf schema typed) where
    -- the rows of a lawful array
    pub rows-come : (text : List ℕ) → first_fault typed array ≡ None → text ≡ lines_text (values_of typed array) → RowsAnswer schema array (Text text)
    rows-come text none is = (Ok typed, kinds, ap (λ (t : List ℕ). Text t) is ∙ ap (rows_unless typed array) (sym none))

    -- the fault of an array
    pub array-refused : (fault : LayoutFault) (checked : CheckFault) (told : TreeRunFault) → checked ≡ array_refused fault → told ≡ fault_of_check checked
        → first_fault typed array ≡ Some (fault_of fault) → IsRefused (RowsAnswer schema array) told
    array-refused fault checked told same gives is =
        told-by (RowsAnswer schema array) told checked (array_refused fault) gives same
        (inr (Ok typed, kinds, ap (rows_unless typed array) (sym is)))

-- ---- unions

module _ (schema : SchemaTree) (array : ArrayTree) where
  union_schema-comes : (fault : UnionSchemaFault) → FailsIf schema (named fault) → IsRefused (UnionAnswer schema array) (fault_of_union_schema fault)
  union_schema-comes unions.Released is = inr (Err found.IsReleased, is, refl)
  union_schema-comes (unions.Format place) is = inr (Err (found.Format place), is, refl)
  union_schema-comes (unions.Meta fault) is = inr (Err (found.OwnPart (parts.Meta fault)), is, refl)
  union_schema-comes unions.Dictionary is = inr (Err (found.OwnPart parts.Dictionary), is, refl)
  union_schema-comes (unions.ChildCount count needed) is = inr (Err (found.ChildCount count needed), is, refl)
  union_schema-comes (unions.Child child (schemas.At path rule)) is =
      inr (Err (found.Child (record { child = child; first = record { path = steps_of path; rule = rule } })), is, refl)
  union_schema-comes (unions.Child child schemas.NoMemory) is = inl refl
  union_schema-comes unions.NoMemory is = inl refl

  -- the fault of a union's schema
  pub union_schema-refused : (fault : UnionSchemaFault) (told : TreeRunFault) → told ≡ fault_of_union_schema fault → IsUnionFault schema fault
      → IsRefused (UnionAnswer schema array) told
  union_schema-refused fault told gives is = subst (IsRefused (UnionAnswer schema array)) (sym gives) (union_schema-comes fault is.1)

  module _ (u : UnionTree) (kinds : UnionOf schema u) where
    -- the items of a lawful union
    pub union-come : (text : List ℕ) → union_fault u array ≡ None → text ≡ items_text (union_items u array) → UnionAnswer schema array (Text text)
    union-come text none is = (Ok u, kinds, ap (λ (t : List ℕ). Text t) is ∙ ap (union_unless u array) (sym none))

    -- the fault of a union's array
    pub union-refused : (fault : UnionFault) (told : TreeRunFault) → told ≡ run.Union (union_fault_told (found_of fault))
        → union_fault u array ≡ Some (found_of fault) → IsRefused (UnionAnswer schema array) told
    union-refused fault told gives is =
        subst (IsRefused (UnionAnswer schema array)) (sym gives) (inr (Ok u, kinds, ap (union_unless u array) (sym is)))

module _ (command : Command) (bytes : List ℕ) where
  text-comes : (fault : TextFault) → (fault ≢ texts.NoMemory → Reads bytes (Err fault)) → IsRefused (TextAnswer command bytes) (fault_of_check (text_refused fault))
  text-comes (texts.Line line) is = inr (record { read = Err (texts.Line line); reads = is (λ e. cc); is = refl })
  text-comes texts.TooManyLines is = inr (record { read = Err texts.TooManyLines; reads = is (λ e. cc); is = refl })
  text-comes texts.NoMemory is = inl refl

  -- the fault of a text
  pub text-refused : (fault : TextFault) (checked : CheckFault) (told : TreeRunFault) → checked ≡ text_refused fault → told ≡ fault_of_check checked
      → (fault ≢ texts.NoMemory → Reads bytes (Err fault)) → IsRefused (TextAnswer command bytes) told
  text-refused fault checked told same gives is = told-by (TextAnswer command bytes) told checked (text_refused fault) gives same (text-comes fault is)

  module _ (schema : SchemaTree) (array : ArrayTree) (reads : Reads bytes (Ok (schema, array))) where
    -- what was read of a text is answered as its trees are
    pub read-answers : (answer : Answer) → TreesAnswer command schema array answer → TextAnswer command bytes answer
    read-answers answer is = record { read = Ok (schema, array); reads = reads; is = is }

    pub read-refused : (fault : TreeRunFault) → IsRefused (TreesAnswer command schema array) fault → IsRefused (TextAnswer command bytes) fault
    read-refused fault (inl none) = inl none
    read-refused fault (inr is) = inr (read-answers (Fault fault) is)
