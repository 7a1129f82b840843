-- What a run comes to, by how it ends.
use Rattle.std.proofs.Common.{if◌then◌else◌, Bool, ◌≡◌, ◌∙◌, ◌≤◌, ◌<◌, ◌+◌, ◌⊎◌, inl, inr, ℕ, true, false, nat_lt, List, [], length, take, Option, Some, None, IfSome, Result, Ok, Err}
use Rattle.std.proofs.Common.{IfErr, IsErrAnd, OnOk, ap, arith, refl, subst, sym}
use Rattle.std.proofs.lemmas.Bool.Decides.{nat_tests}
use Rattle.std.proofs.lemmas.List.{length-append}
use Rattle.std.specs.Io.KnownBytes.{Appends, IsAtEnd, Keeps}
use Rattle.edge_io.specs.promise.Edge.{LosesCount}
use Rattle.data_types.specs.promise.KindTrees.{KindTree}
use Rattle.layout_rules.specs.promise.Walk.{Fault as ArrayFault, first_chunk_fault, first_fault}
use Rattle.raw_array.specs.promise.Members.{ArrayTree}
use Rattle.raw_schema.specs.promise.Members.{SchemaTree}
use Rattle.schema_check.specs.promise.SchemaAnswers.{FirstFault}
use Rattle.tree_check.specs.Checks.{array_fault, schema_fault}
use Rattle.tree_check.specs.declared.fault.TreeFault.{TreeFault}
use Rattle.tree_check.specs.declared.fault.TreeFault.TheVariants as trees
use Rattle.tree_model.specs.promise.TreeParts.{children_of}
use Rattle.tree_text.specs.declared.fault.TextFault.{TextFault}
use Rattle.tree_top.specs.promise.TextOrFault.{Answer, Fault, Text}
use Rattle.tree_top.specs.promise.Answer.{AnswerWithin, CountsCommand, IsAnswerTo, ReadAnswer, TextAnswer}
use Rattle.tree_top.specs.Answer.{AreBytes, IsTooLong}
use Rattle.tree_check.specs.promise.Runs.{AtWriting, Cause, Memory, OfLength, OfPlan, OfRecords, OfTexts, OfTree, OfWords, Reading, Writing}
use Rattle.tree_check.specs.promise.Runs.{ReadFor, input_limit, is_writing}
use Rattle.tree_top.specs.promise.Answer.{TreesAnswer}
use Rattle.tree_top.specs.Faults.{AtWriteFault}
use Rattle.tree_top.specs.promise.Faults.{cause_of}
use Rattle.tree_top.specs.Faults.{is_decided, is_write_fault}
use Rattle.tree_top.specs.Faults.{fault_in}
use Rattle.data_types.specs.promise.Table.{Row}
use Rattle.layout_rules.specs.promise.Values.{rows_of}
use Rattle.list_cols.specs.promise.Nested.{Explode, Nest}
use Rattle.list_cols.specs.declared.fault.ListFault.{ListFault}
use Rattle.run_ends.specs.promise.RunRules.{runs_fault}
use Rattle.run_ends.specs.RunRules.{RunsFound}
use Rattle.run_ends.specs.promise.RunSchemas.{SchemaFound as RunsSchemaFound}
use Rattle.run_ends.specs.promise.Runs.{RunTree}
use Rattle.run_ends.specs.declared.code_fault.CodeFault.{CodeFault}
use Rattle.tree_top.specs.AnswerParts.{ChunkCommand, answer_of_chunk, answer_of_kinds}
use Rattle.tree_top.specs.AnswerParts.{flat_of_schema, flat_unless}
use Rattle.tree_top.specs.AnswerParts.{chunk_of_kinds, chunk_unless}
use Rattle.tree_top.specs.AnswerParts.{exploded, lines_unless, nested, new_rows_unless, answer_of_column}
use Rattle.tree_top.specs.promise.Over.{RanOver}
use Rattle.tree_top.specs.Refusals.{fault_of_tree}
use Rattle.tree_top.specs.AnswerParts.{rows_of_kinds, rows_unless}
use Rattle.tree_top.specs.AnswerParts.{runs_of_array, runs_of_kinds, runs_unless}
use Rattle.tree_top.specs.AnswerParts.{tags_of_columns, tags_unless}
use Rattle.tree_top.specs.AnswerParts.{union_of_schema, union_unless}
use Rattle.union_cols.specs.declared.tag_fault.TagFault.{TagFault}
use Rattle.union_cols.specs.promise.UnionRules.{union_fault}
use Rattle.union_cols.specs.UnionRules.{UnionFound}
use Rattle.union_cols.specs.promise.UnionSchemas.{SchemaFound}
use Rattle.union_cols.specs.promise.Unions.{UnionTree}
use Rattle.tree_top.specs.declared.command.Command.{Command}
use Rattle.tree_top.specs.declared.command.Command.TheVariants as commands
use Rattle.tree_top.specs.declared.fault.TreeRunFault.{TreeRunFault}
use Rattle.tree_top.specs.declared.fault.TreeRunFault.TheVariants as run
use Rattle.tree_top.proofs.Coming.{IsRefused}

pub untrue : false ≡ true → ⊥
untrue e = cc

-- ---- a result that is known

pub at-err : {T E : Type 0} (P : E → Type 0) (r : Result T E) (e : E) → r ≡ Err e → P e → IfErr r P
at-err P r e is holds = subst (λ s. IfErr s P) (sym is) holds

pub no-ok : {T E : Type 0} (P : Type 0) (r : Result T E) (e : E) → r ≡ Err e → OnOk r P
no-ok P r e is = subst (λ s. OnOk s P) (sym is) tt

-- the error of a result, which is this one
pub the-error : {T E : Type 0} (r : Result T E) (e : E) → IsErrAnd r (λ x. x ≡ e) → r ≡ Err e
the-error (Ok t) e is = absurd is
the-error (Err x) e is = ap Err is

pub one-error : {T E : Type 0} (r : Result T E) (one other : E) → r ≡ Err one → r ≡ Err other → one ≡ other
one-error r one other is also = cc

-- ---- what stays as it was
pub keeps-same : (bytes : Option (List ℕ)) → Keeps bytes bytes
keeps-same None = tt
keeps-same (Some bytes) = refl

-- ---- the input

-- there are bytes that may be an input's
pub some-bytes : (told : Option (List ℕ)) → (bytes : List ℕ) × AreBytes told bytes
some-bytes None = ([], tt)
some-bytes (Some l) = (l, refl)

-- a source that gave one byte more than are read has too many
pub too-many : (old new : Option (List ℕ)) → LosesCount old new (input_limit + 1) → IsTooLong old
too-many None new (bytes, gave, n) = (bytes, tt, omega (arith, n))
too-many (Some l) None (bytes, gave, n) = absurd gave
too-many (Some l) (Some rest) (bytes, gave, n) =
    let all : length l ≡ length bytes + length rest = ap length gave ∙ length-append bytes rest in
    (l, refl, omega (arith, n, all))

not-long : (n : ℕ) → n ≤ input_limit → nat_lt input_limit n ≡ false
not-long n fits = grind (arith, nat_tests)

-- the input isn't too long, so the answer is that to its text
pub within : (command : Command) (bytes : List ℕ) → length bytes ≤ input_limit → (answer : Answer) → TextAnswer command bytes answer
    → IsAnswerTo (Some command) bytes answer
within command bytes fits answer is = subst (λ long. AnswerWithin long command bytes answer) (sym (not-long (length bytes) fits)) is

too-long : (command : Command) (bytes : List ℕ) → input_limit < length bytes → IsAnswerTo (Some command) bytes (Fault run.InputTooLong)
too-long command bytes more = let long : nat_lt input_limit (length bytes) ≡ true = grind (arith, nat_tests) in
    subst (λ l. AnswerWithin l command bytes (Fault run.InputTooLong)) (sym long) refl

-- ---- faults by what they come from

pub fault-cases : (f : TreeRunFault) → (is_decided f ≡ true) ⊎ ((f ≡ run.ReadFault) ⊎ (((taken : ℕ) × (f ≡ run.WriteFault taken)) ⊎ (f ≡ run.NoMemory)))
fault-cases run.Words = inl refl
fault-cases run.InputTooLong = inl refl
fault-cases run.ReadFault = inr (inl refl)
fault-cases (run.WriteFault taken) = inr (inr (inl (taken, refl)))
fault-cases (run.Text fault) = inl refl
fault-cases (run.Schema path rule) = inl refl
fault-cases (run.Layout fault) = inl refl
fault-cases (run.UnionSchema fault) = inl refl
fault-cases (run.Union fault) = inl refl
fault-cases (run.Tag fault) = inl refl
fault-cases (run.RunsSchema fault) = inl refl
fault-cases (run.Runs fault) = inl refl
fault-cases (run.Code fault) = inl refl
fault-cases (run.TooManyColumns count) = inl refl
fault-cases (run.Column column) = inl refl
fault-cases (run.Lists fault) = inl refl
fault-cases run.NoMemory = inr (inr (inr refl))

pub not-writing : (P : ℕ → Type 0) (cause : Cause) → is_writing cause ≡ false → AtWriting cause P
not-writing P OfWords none = tt
not-writing P OfTexts none = tt
not-writing P OfPlan none = tt
not-writing P OfRecords none = tt
not-writing P OfLength none = tt
not-writing P OfTree none = tt
not-writing P Reading none = tt
not-writing P (Writing taken) none = absurd (cc)
not-writing P Memory none = tt

pub no-write : (P : ℕ → Type 0) (r : Result (Unit {0}) TreeRunFault) (fault : TreeRunFault) → r ≡ Err fault → is_write_fault fault ≡ false
    → IfErr r (λ f. AtWriteFault f P)
no-write P r fault is none = at-err (λ f. AtWriteFault f P) r fault is (not-writing P (cause_of fault) none)

-- ---- the faults of a text

-- neither the words nor the length of the input, nor the source or the sink
abbrev pub IsOfText : Cause → Type 0
IsOfText OfTree = Unit {0}
IsOfText Memory = Unit {0}
IsOfText _ = ⊥

abbrev TextFaultIn : Answer → Type 0
TextFaultIn (Text text) = Unit {0}
TextFaultIn (Fault fault) = IsOfText (cause_of fault)

in-tree : (fault : TreeFault) → IsOfText (cause_of (fault_of_tree fault))
in-tree (trees.Text fault) = tt
in-tree (trees.Schema path rule) = tt
in-tree (trees.Layout fault) = tt

in-rows : (typed : KindTree) (array : ArrayTree) (fault : Option ArrayFault) → TextFaultIn (rows_unless typed array fault)
in-rows typed array None = tt
in-rows typed array (Some fault) = in-tree (array_fault fault)

in-kinds : (read : Result KindTree FirstFault) (array : ArrayTree) → TextFaultIn (rows_of_kinds read array)
in-kinds (Ok typed) array = in-rows typed array (first_fault typed array)
in-kinds (Err first) array = in-tree (schema_fault first)

in-chunk : (typed : KindTree) (array : ArrayTree) (fault : Option ArrayFault) → TextFaultIn (chunk_unless typed array fault)
in-chunk typed array None = tt
in-chunk typed array (Some fault) = in-tree (array_fault fault)

in-chunk_kinds : (read : Result KindTree FirstFault) (array : ArrayTree) → TextFaultIn (chunk_of_kinds read array)
in-chunk_kinds (Ok typed) array = in-chunk typed array (first_chunk_fault typed array)
in-chunk_kinds (Err first) array = in-tree (schema_fault first)

in-columns : (typed : KindTree) (array : ArrayTree) (fault : Option TagFault) → TextFaultIn (tags_unless typed array fault)
in-columns typed array None = tt
in-columns typed array (Some fault) = tt

module _ (said : ChunkCommand) (is-said : (typed : KindTree) (array : ArrayTree) → TextFaultIn (said typed array)) where
  in-said_chunk : (typed : KindTree) (array : ArrayTree) (fault : Option ArrayFault) → TextFaultIn (answer_of_chunk said typed array fault)
  in-said_chunk typed array None = is-said typed array
  in-said_chunk typed array (Some fault) = in-tree (array_fault fault)

  in-said : (read : Result KindTree FirstFault) (array : ArrayTree) → TextFaultIn (answer_of_kinds said read array)
  in-said (Ok typed) array = in-said_chunk typed array (first_chunk_fault typed array)
  in-said (Err first) array = in-tree (schema_fault first)

in-lines : (rows : List Row) (fault : Option ListFault) → TextFaultIn (lines_unless rows fault)
in-lines rows None = tt
in-lines rows (Some fault) = tt

module _ (said : KindTree → List Row → Answer) (is-said : (typed : KindTree) (rows : List Row) → TextFaultIn (said typed rows)) where
  in-new_rows : (typed : KindTree) (array : ArrayTree) (many there : Bool) (count column : ℕ)
      → TextFaultIn (new_rows_unless said typed array (if many then Some (run.TooManyColumns count) else if there then None else Some (run.Column column)))
  in-new_rows typed array true there count column = tt
  in-new_rows typed array false true count column = is-said typed (rows_of typed array)
  in-new_rows typed array false false count column = tt

in-exploded : (column : ℕ) (typed : KindTree) (array : ArrayTree) → TextFaultIn (answer_of_column column (exploded column) typed array)
in-exploded column typed array =
    in-new_rows (exploded column) (λ typed rows. in-lines (Explode column rows) _) typed array _ _ (length (children_of typed)) column

in-nested : (column : ℕ) (typed : KindTree) (array : ArrayTree) → TextFaultIn (answer_of_column column (nested column) typed array)
in-nested column typed array =
    in-new_rows (nested column) (λ typed rows. in-lines (Nest (length (children_of typed)) column rows) _) typed array _ _ (length (children_of typed))
    column

in-union : (u : UnionTree) (array : ArrayTree) (fault : Option UnionFound) → TextFaultIn (union_unless u array fault)
in-union u array None = tt
in-union u array (Some fault) = tt

in-union_schema : (read : Result UnionTree SchemaFound) (array : ArrayTree) → TextFaultIn (union_of_schema read array)
in-union_schema (Ok u) array = in-union u array (union_fault u array)
in-union_schema (Err fault) array = tt

in-coded : (typed : KindTree) (array : ArrayTree) (fault : Option CodeFault) → TextFaultIn (runs_unless typed array fault)
in-coded typed array None = tt
in-coded typed array (Some fault) = tt

in-column : (typed : KindTree) (array : ArrayTree) (fault : Option ArrayFault) → TextFaultIn (runs_of_array typed array fault)
in-column typed array None = in-coded typed array _
in-column typed array (Some fault) = in-tree (array_fault fault)

in-runs : (read : Result KindTree FirstFault) (array : ArrayTree) → TextFaultIn (runs_of_kinds read array)
in-runs (Ok typed) array = in-column typed array (first_fault typed array)
in-runs (Err first) array = in-tree (schema_fault first)

in-flat_array : (u : RunTree) (array : ArrayTree) (fault : Option RunsFound) → TextFaultIn (flat_unless u array fault)
in-flat_array u array None = tt
in-flat_array u array (Some fault) = tt

in-flat : (read : Result RunTree RunsSchemaFound) (array : ArrayTree) → TextFaultIn (flat_of_schema read array)
in-flat (Ok u) array = in-flat_array u array (runs_fault u array)
in-flat (Err fault) array = tt

in-trees : (command : Command) (schema : SchemaTree) (array : ArrayTree) (answer : Answer) → TreesAnswer command schema array answer → TextFaultIn answer
in-trees commands.Rows schema array answer is = subst TextFaultIn (sym is.2) (in-kinds is.0 array)
in-trees commands.Union schema array answer is = subst TextFaultIn (sym is.2) (in-union_schema is.0 array)
in-trees (commands.Tag dense) schema array answer is = subst TextFaultIn (sym is.2) (in-said (tags_of_columns dense) (λ typed array. in-columns typed array _) is.0 array)
in-trees commands.Foreign schema array answer is = subst TextFaultIn (sym is.2) (in-chunk_kinds is.0 array)
in-trees commands.Runs schema array answer is = subst TextFaultIn (sym is.2) (in-runs is.0 array)
in-trees commands.Flat schema array answer is = subst TextFaultIn (sym is.2) (in-flat is.0 array)
in-trees (commands.Explode column) schema array answer is =
    subst TextFaultIn (sym is.2) (in-said (answer_of_column column (exploded column)) (in-exploded column) is.0 array)
in-trees (commands.Nest column) schema array answer is =
    subst TextFaultIn (sym is.2) (in-said (answer_of_column column (nested column)) (in-nested column) is.0 array)

in-read : (command : Command) (read : Result (SchemaTree × ArrayTree) TextFault) (answer : Answer) → ReadAnswer command read answer → TextFaultIn answer
in-read command (Ok read) answer is = in-trees command read.0 read.1 answer is
in-read command (Err fault) answer is = subst TextFaultIn (sym is) tt

pub of-text : (command : Command) (bytes : List ℕ) (fault : TreeRunFault) → IsRefused (TextAnswer command bytes) fault → IsOfText (cause_of fault)
of-text command bytes fault (inl none) = subst (λ f. IsOfText (cause_of f)) (sym none) tt
of-text command bytes fault (inr is) = in-read command is.read (Fault fault) is.is

pub not_writing-of : (cause : Cause) → IsOfText cause → is_writing cause ≡ false
not_writing-of OfWords of = absurd of
not_writing-of OfTexts of = absurd of
not_writing-of OfPlan of = absurd of
not_writing-of OfRecords of = absurd of
not_writing-of OfLength of = absurd of
not_writing-of OfTree of = refl
not_writing-of Reading of = absurd of
not_writing-of (Writing taken) of = absurd of
not_writing-of Memory of = refl

-- it is found once the source was read
pub read-of : (cause : Cause) → IsOfText cause → (before after : Option (List ℕ)) → IsAtEnd after → ReadFor cause None before after
read-of OfWords of before after end = tt
read-of OfTexts of before after end = tt
read-of OfPlan of before after end = end
read-of OfRecords of before after end = end
read-of OfLength of before after end = absurd of
read-of OfTree of before after end = end
read-of Reading of before after end = tt
read-of (Writing taken) of before after end = end
read-of Memory of before after end = tt

pub not_reading-of : (X : Type 0) (fault : TreeRunFault) → IsOfText (cause_of fault) → fault ≡ run.ReadFault → X
not_reading-of X fault of is = absurd (subst (λ f. IsOfText (cause_of f)) is of)

pub not_words-of : (X : Type 0) (fault : TreeRunFault) → IsOfText (cause_of fault) → fault ≡ run.Words → X
not_words-of X fault of is = absurd (subst (λ f. IsOfText (cause_of f)) is of)

-- where it is decided it is the answer
pub text-refused-with : (command : Command) (bytes : List ℕ) → length bytes ≤ input_limit → (fault : TreeRunFault)
    → IsRefused (TextAnswer command bytes) fault → is_decided fault ≡ true → IsAnswerTo (Some command) bytes (Fault fault)
text-refused-with command bytes fits fault (inl none) decided = let e : false ≡ true = subst (λ f. is_decided f ≡ true) none decided in absurd (untrue e)
text-refused-with command bytes fits fault (inr is) decided = within command bytes fits (Fault fault) is

-- ---- how a run ends

module _ (alone : (command : Option Command) (bytes : List ℕ) (one other : Answer) → IsAnswerTo command bytes one → IsAnswerTo command bytes other
    → one ≡ other) (command : Option Command) (bytes : List ℕ) (taken got : Option (List ℕ)) (old_blocks old_nodes blocks nodes : ℕ)
    (ReadRose WriteRose : Type 0) where
  -- an answer is no text and a fault at once
  not-both : (X : Type 0) (text : List ℕ) (fault : TreeRunFault) → IsAnswerTo command bytes (Text text) → IsAnswerTo command bytes (Fault fault) → X
  not-both X text fault is also = let never : ◌≡◌ {A = Answer} (Text text) (Fault fault) = alone command bytes (Text text) (Fault fault) is also in cc

  module _ (f : TreeRunFault) (unwritten : is_write_fault f ≡ false) (answer : is_decided f ≡ true → IsAnswerTo command bytes (Fault f))
      (read : f ≡ run.ReadFault → ReadRose) where
    never-wrote : (X : Type 0) (taken : ℕ) → f ≡ run.WriteFault taken → X
    never-wrote X taken is = let e : true ≡ false = subst (λ g. is_write_fault g ≡ false) is unwritten in absurd (cc)

    complete : (text : List ℕ) → IsAnswerTo command bytes (Text text) → (ReadRose → ⊥) → (◌≡◌ {A = Option TreeRunFault} (Some f) None) ⊎ (Some f ≡ Some run.NoMemory)
    complete text is no-read = elim (fault-cases f) [
      | inl decided ↦ not-both _ text f is (answer decided)
      | inr late ↦ elim late [
        | inl reading ↦ absurd (no-read (read reading))
        | inr later ↦ elim later [
          | inl writing ↦ never-wrote _ writing.0 writing.1
          | inr memory ↦ inr (ap Some memory)
        ]
      ]
    ]

    complete-fault : (g : TreeRunFault) → IsAnswerTo command bytes (Fault g) → (ReadRose → ⊥) → (Some f ≡ Some g) ⊎ (Some f ≡ Some run.NoMemory)
    complete-fault g is no-read = elim (fault-cases f) [
      | inl decided ↦
          let same : ◌≡◌ {A = Answer} (Fault f) (Fault g) = alone command bytes (Fault f) (Fault g) (answer decided) is in
          let one : f ≡ g = cc in
          inl (ap Some one)
      | inr late ↦ elim late [
        | inl reading ↦ absurd (no-read (read reading))
        | inr later ↦ elim later [
          | inl writing ↦ never-wrote _ writing.0 writing.1
          | inr memory ↦ inr (ap Some memory)
        ]
      ]
    ]

    -- with a fault that is no failed write
    pub refused-over : RanOver command bytes (Some f) taken got old_blocks old_nodes blocks nodes ReadRose WriteRose
    refused-over = record {
      text = λ none. absurd (cc);
      refused = answer;
      first = not-writing _ (cause_of f) unwritten;
      counts = λ none. absurd (cc);
      complete = λ text is no-read no-write. complete text is no-read;
      complete_fault = λ g is no-read. complete-fault g is no-read;
    }

  -- with the fault of a result
  pub refused-result : (r : Result (Unit {0}) TreeRunFault) (f : TreeRunFault) → r ≡ Err f → is_write_fault f ≡ false
      → (is_decided f ≡ true → IsAnswerTo command bytes (Fault f)) → (f ≡ run.ReadFault → ReadRose)
      → RanOver command bytes (fault_in r) taken got old_blocks old_nodes blocks nodes ReadRose WriteRose
  refused-result r f is unwritten answer read =
      subst (λ o. RanOver command bytes (fault_in o) taken got old_blocks old_nodes blocks nodes ReadRose WriteRose) (sym is)
      (refused-over f unwritten answer read)

  -- without a fault
  pub done-over : (text : List ℕ) → IsAnswerTo command bytes (Text text) → Appends taken got text
      → IfSome command (λ c. CountsCommand c bytes old_blocks old_nodes blocks nodes)
      → RanOver command bytes None taken got old_blocks old_nodes blocks nodes ReadRose WriteRose
  done-over text answer wrote counts = record {
    text = λ none. (text, answer, wrote);
    refused = tt;
    first = tt;
    counts = λ none. counts;
    complete = λ text is no-read no-write. inl refl;
    complete_fault = λ g is no-read. not-both _ text g answer is;
  }

  -- with a failed write
  pub failed-over : (text : List ℕ) (count : ℕ) → IsAnswerTo command bytes (Text text) → count ≤ length text → Appends taken got (take count text) → WriteRose
      → RanOver command bytes (Some (run.WriteFault count)) taken got old_blocks old_nodes blocks nodes ReadRose WriteRose
  failed-over text count answer within wrote rose = record {
    text = λ none. absurd (cc);
    refused = λ decided. absurd (untrue decided);
    first = (text, answer, within, wrote);
    counts = λ none. absurd (cc);
    complete = λ text is no-read no-write. absurd (no-write rose);
    complete_fault = λ g is no-read. not-both _ text g answer is;
  }

-- a write fails once the source was read
pub failed-read : (before after : Option (List ℕ)) (taken : ℕ) (fault : TreeRunFault) → fault ≡ run.WriteFault taken → IsAtEnd after
    → ReadFor (cause_of fault) None before after
failed-read before after taken fault is end = subst (λ f. ReadFor (cause_of f) None before after) (sym is) end

-- what a failed write isn't
module _ (X : Type 0) (taken : ℕ) (fault : TreeRunFault) (is : fault ≡ run.WriteFault taken) where
  pub failed-not_words : ◌≡◌ {A = Result (Unit {0}) TreeRunFault} (Err fault) (Err run.Words) → X
  failed-not_words words = let e : run.WriteFault taken ≡ run.Words = sym is ∙ (let same : fault ≡ run.Words = cc in same) in absurd (cc)

  pub failed-not_reading : ◌≡◌ {A = Result (Unit {0}) TreeRunFault} (Err fault) (Err run.ReadFault) → X
  failed-not_reading read = let e : run.WriteFault taken ≡ run.ReadFault = sym is ∙ (let same : fault ≡ run.ReadFault = cc in same) in absurd (cc)

  pub failed-at-write : X → AtWriteFault fault (λ count. X)
  failed-at-write rose = subst (λ f. AtWriteFault f (λ count. X)) (sym is) rose

-- without a command
pub words-over : (alone : (command : Option Command) (bytes : List ℕ) (one other : Answer) → IsAnswerTo command bytes one → IsAnswerTo command bytes other
    → one ≡ other) (command : Option Command) (bytes : List ℕ) (taken got : Option (List ℕ)) (old_blocks old_nodes blocks nodes : ℕ)
    (ReadRose WriteRose : Type 0) → command ≡ None
    → RanOver command bytes (Some run.Words) taken got old_blocks old_nodes blocks nodes ReadRose WriteRose
words-over alone command bytes taken got old_blocks old_nodes blocks nodes ReadRose WriteRose none =
    refused-over alone command bytes taken got old_blocks old_nodes blocks nodes ReadRose WriteRose run.Words refl
    (λ decided. subst (λ c. IsAnswerTo c bytes (Fault run.Words)) (sym none) refl) (λ is. let e : run.Words ≡ run.ReadFault = is in absurd (cc))

-- ---- the fault of what is read

abbrev pub Unread : Type 0 → Option (List ℕ) → TreeRunFault → Type 0
Unread Rises told fault = (fault ≡ run.NoMemory) ⊎ (fault ≡ run.ReadFault) × Rises ⊎ (fault ≡ run.InputTooLong) × IsTooLong told

-- the bytes of an input that wasn't read whole, over which its fault is the answer where it is decided
abbrev pub RefusedOver : Option (List ℕ) → Command → TreeRunFault → Type 0
RefusedOver told command fault = (bytes : List ℕ) × AreBytes told bytes × (is_decided fault ≡ true → IsAnswerTo (Some command) bytes (Fault fault))

undecided : (told : Option (List ℕ)) (command : Command) (fault : TreeRunFault) → is_decided fault ≡ false → RefusedOver told command fault
undecided told command fault none =
    let some = some-bytes told in
    (some.0, some.1, λ decided. absurd (untrue (sym none ∙ decided)))

module _ (Rises : Type 0) (told : Option (List ℕ)) (fault : TreeRunFault) where
  pub unread-refused : (command : Command) → Unread Rises told fault → RefusedOver told command fault
  unread-refused command (inl none) = undecided told command fault (ap is_decided none)
  unread-refused command (inr (inl read)) = undecided told command fault (ap is_decided read.0)
  unread-refused command (inr (inr (long, (bytes, are, more)))) =
      (bytes, are, λ decided. subst (λ f. IsAnswerTo (Some command) bytes (Fault f)) (sym long) (too-long command bytes more))

  pub unread-not_words : (X : Type 0) → Unread Rises told fault → fault ≡ run.Words → X
  unread-not_words X (inl none) words = let e : run.Words ≡ run.NoMemory = sym words ∙ none in cc
  unread-not_words X (inr (inl read)) words = let e : run.Words ≡ run.ReadFault = sym words ∙ read.0 in cc
  unread-not_words X (inr (inr long)) words = let e : run.Words ≡ run.InputTooLong = sym words ∙ long.0 in cc

  pub unread-not_writing : Unread Rises told fault → is_write_fault fault ≡ false
  unread-not_writing (inl none) = ap is_write_fault none
  unread-not_writing (inr (inl read)) = ap is_write_fault read.0
  unread-not_writing (inr (inr long)) = ap is_write_fault long.0

  pub unread-failed : Unread Rises told fault → fault ≡ run.ReadFault → Rises
  unread-failed (inl none) read = let e : run.ReadFault ≡ run.NoMemory = sym read ∙ none in absurd (cc)
  unread-failed (inr (inl failed)) read = failed.1
  unread-failed (inr (inr long)) read = let e : run.ReadFault ≡ run.InputTooLong = sym read ∙ long.0 in absurd (cc)
