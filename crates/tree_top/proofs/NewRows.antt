-- What the making of new rows of a chunk comes to.
use Rattle.std.proofs.Common.{◌≡◌, ◌<◌, ◌≤◌, ◌∙◌, ◌⊎◌, ℕ, Bool, true, false, nat_lt, if◌then◌else◌, arith, List, length, map, Option, None, Some, Result, Ok, Err, IfOk, IfErr, OnOk, inl, inr, ap, refl, subst, sym}
use Rattle.std.proofs.lemmas.Bool.Decides.{nat_tests}
use Rattle.data_types.specs.promise.Table.{Row}
use Rattle.data_types.specs.promise.KindTrees.{KindTree}
use Rattle.data_types.specs.KindTrees.{TypedOk}
use Rattle.data_types.specs.promise.Ways.{Steps}
use Rattle.layout_rules.specs.Lawful.{ChunkHolds}
use Rattle.layout_rules.specs.promise.Values.{rows_of, values_of}
use Rattle.layout_rules.specs.promise.Walk.{ChunkOk, first_chunk_fault}
use Rattle.list_cols.specs.promise.Faults.{most_columns}
use Rattle.list_cols.specs.Faults.{IsRefusedBy}
use Rattle.list_cols.specs.declared.fault.ListFault.{ListFault}
use Rattle.list_cols.specs.declared.fault.ListFault.TheVariants as lists
use Rattle.raw_array.specs.promise.Members.{ArrayTree}
use Rattle.raw_schema.specs.promise.Members.{SchemaTree}
use Rattle.schema_check.specs.promise.SchemaAnswers.{FirstFault, SchemaReads}
use Rattle.schema_check.specs.promise.Schemas.{SchemaFaultIs, TypedOf}
use Rattle.schema_check.specs.declared.rule.SchemaRule.{SchemaRule}
use Rattle.tree_model.specs.promise.TreeParts.{IsLive, children_of}
use Rattle.data_types.specs.promise.ValueTexts.{lines_text}
use Rattle.tree_top.specs.promise.ChunkAnswer.{ChunkAnswer}
use Rattle.tree_top.specs.promise.ForeignAnswer.{row_value}
use Rattle.tree_top.specs.promise.ListsAnswer.{column_fault}
use Rattle.tree_top.specs.AnswerParts.{lines_unless, new_rows_unless as rows_unless, answer_of_column}
use Rattle.tree_top.specs.Refusals.{fault_of_list}
use Rattle.tree_top.specs.promise.TextOrFault.{Answer, Fault, Text}
use Rattle.tree_top.specs.declared.fault.TreeRunFault.{TreeRunFault}
use Rattle.tree_top.specs.declared.fault.TreeRunFault.TheVariants as run
use Rattle.tree_top.proofs.Chunks.{IsChunkFault, chunk-fault, chunk-is, chunk-text}
use Rattle.tree_top.proofs.ForeignRows.{chunk-values, live-kinds}

-- ---- the column

column-parts : (many there : Bool) (count column : ℕ)
    → (if many then Some (run.TooManyColumns count) else if there then None else Some (run.Column column)) ≡ None → (many ≡ false) × (there ≡ true)
column-parts true there count column e = absurd (cc)
column-parts false true count column e = (refl, refl)
column-parts false false count column e = absurd (cc)

module _ (column count : ℕ) where
  -- where there is no fault, there is the column
  pub column-inside : column_fault column count ≡ None → (count ≤ most_columns) × (column < count)
  column-inside none =
      let parts = column-parts (nat_lt most_columns count) (nat_lt column count) count column none in
      let few : nat_lt most_columns count ≡ false = parts.0 in
      let there : nat_lt column count ≡ true = parts.1 in
      (grind (arith, nat_tests, few), grind (arith, nat_tests, there))

  pub column-many : most_columns < count → Some (run.TooManyColumns count) ≡ column_fault column count
  column-many more = let many : nat_lt most_columns count ≡ true = grind (arith, nat_tests, more) in rw (many) refl

  module _ (few : count ≤ most_columns) where
    not-many : nat_lt most_columns count ≡ false
    not-many = grind (arith, nat_tests, few)

    pub column-there : column < count → None ≡ column_fault column count
    column-there inside = let there : nat_lt column count ≡ true = grind (arith, nat_tests, inside) in rw (not-many, there) refl

    pub column-none : count ≤ column → Some (run.Column column) ≡ column_fault column count
    column-none outside = let there : nat_lt column count ≡ false = grind (arith, nat_tests, outside) in rw (not-many, there) refl

module _ (schema : SchemaTree) (array : ArrayTree) (column : ℕ) where
  -- whatever is said of rows, this fault is the answer
  abbrev pub IsColumnFault : TreeRunFault → Type 0
  IsColumnFault told = (told ≡ run.NoMemory) ⊎ ((said : KindTree → List Row → Answer) → ChunkAnswer (answer_of_column column said) schema array (Fault told))

  -- that of the chunk
  pub column-late : (told : TreeRunFault) → IsChunkFault schema array told → IsColumnFault told
  column-late told (inl memory) = inl memory
  column-late told (inr each) = inr (λ said. each (answer_of_column column said))

  module _ (typed : KindTree) (kinds : TypedOf schema typed) (passed : first_chunk_fault typed array ≡ None) where
    -- that of the column
    pub column-refused : (told : TreeRunFault) → Some told ≡ column_fault column (length (children_of typed)) → IsColumnFault told
    column-refused told is =
        inr (λ said. chunk-is schema array typed kinds passed (answer_of_column column said) (Fault told) (ap (rows_unless said typed array) is))

    -- what is said of the rows where there is the column
    module _ (there : column_fault column (length (children_of typed)) ≡ None) (said : KindTree → List Row → Answer) where
      pub rows-text : {T E : Type 0} (text : T → List ℕ) (r : Result T E) → IfOk r (λ t. Text (text t) ≡ said typed (rows_of typed array))
          → IfOk r (λ t. ChunkAnswer (answer_of_column column said) schema array (Text (text t)))
      rows-text text r is =
          chunk-text schema array typed kinds passed (answer_of_column column said) text r
          (subst (λ f. IfOk r (λ t. Text (text t) ≡ rows_unless said typed array f)) (sym there) is)

      pub rows-fault : {T : Type 0} (r : Result T TreeRunFault) → IfErr r (λ fault. (fault ≡ run.NoMemory) ⊎ (Fault fault ≡ said typed (rows_of typed array)))
          → IfErr r (λ fault. (fault ≡ run.NoMemory) ⊎ ChunkAnswer (answer_of_column column said) schema array (Fault fault))
      rows-fault r is =
          chunk-fault schema array typed kinds passed (answer_of_column column said) r
          (subst (λ f. IfErr r (λ fault. (fault ≡ run.NoMemory) ⊎ (Fault fault ≡ rows_unless said typed array f))) (sym there) is)

-- ---- the new rows

module _ (rows : List Row) (fault : Option ListFault) where
  -- their lines
  pub new-lines : (text : List ℕ) (shown : List Row) → text ≡ lines_text (map row_value shown) → shown ≡ rows → fault ≡ None
      → Text text ≡ lines_unless rows fault
  new-lines text shown is same none = ap Text (is ∙ ap (λ rs. lines_text (map row_value rs)) same) ∙ ap (lines_unless rows) (sym none)

  -- why there are none
  pub new-refused : (refused : ListFault) (told : TreeRunFault) → told ≡ fault_of_list refused → IsRefusedBy fault refused
      → (told ≡ run.NoMemory) ⊎ (Fault told ≡ lines_unless rows fault)
  new-refused (lists.WrongKind column) told gives is = inr (ap Fault gives ∙ ap (lines_unless rows) (sym is))
  new-refused lists.TooLong told gives is = inr (ap Fault gives ∙ ap (lines_unless rows) (sym is))
  new-refused lists.NoMemory told gives is = inl gives

-- ---- the chunk that is made

-- its lines, by its rows
pub made-lines : ((typed : KindTree) (array : ArrayTree) → IsLive typed → ChunkOk typed array → ChunkHolds typed array) → (typed : KindTree) (array : ArrayTree)
    → TypedOk typed → ChunkOk typed array → lines_text (values_of typed array) ≡ lines_text (map row_value (rows_of typed array))
made-lines tables typed array ok chunk =
    let live = live-kinds typed ok in
    ap lines_text (chunk-values typed array live (tables typed array live chunk))

module _ (one-schema : (schema : SchemaTree) (first second : Result KindTree FirstFault) → SchemaReads schema first → SchemaReads schema second
    → first ≡ second) (schema : SchemaTree) (typed : KindTree) (kinds : TypedOf schema typed) where
  -- a schema has one tree of kinds
  pub same-kinds : (other : KindTree) → TypedOf schema other → typed ≡ other
  same-kinds other is = let same : ◌≡◌ {A = Result KindTree FirstFault} (Ok typed) (Ok other) = one-schema schema (Ok typed) (Ok other) kinds is in cc

  -- and no fault besides
  pub no-fault : {X : Type 0} (path : Steps) (rule : SchemaRule) → SchemaFaultIs schema path rule → X
  no-fault path rule is =
      let first : FirstFault = record { path = path; rule = rule } in
      let never : ◌≡◌ {A = Result KindTree FirstFault} (Ok typed) (Err first) = one-schema schema (Ok typed) (Err first) kinds is in
      absurd (cc)

  -- the lines of a chunk of these kinds
  pub made-text : ((read : KindTree) (array : ArrayTree) → IsLive read → ChunkOk read array → ChunkHolds read array) → (array : ArrayTree) → TypedOk typed
      → ChunkOk typed array → {T E : Type 0} (items : T → List ℕ) (r : Result T E) → IfOk r (λ t. items t ≡ lines_text (values_of typed array))
      → IfOk r (λ t. (other : KindTree) → TypedOf schema other → items t ≡ lines_text (map row_value (rows_of other array)))
  made-text tables array ok chunk items (Ok t) is = λ other also. is
      ∙ made-lines tables typed array ok chunk
      ∙ ap (λ k. lines_text (map row_value (rows_of k array))) (same-kinds other also)
  made-text tables array ok chunk items (Err e) is = tt

-- what holds of what was made, where there is a text
pub both-made : {T E : Type 0} (r : Result T E) (A B C : Type 0) → (A → B → C) → OnOk r A → OnOk r B → OnOk r C
both-made (Ok text) A B C of a b = of a b
both-made (Err fault) A B C of a b = tt
