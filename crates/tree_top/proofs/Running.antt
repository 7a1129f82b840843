-- What the runs of a column and the items of a run-end encoded array come to.
use Rattle.std.proofs.Common.{◌≡◌, ◌∙◌, ◌<◌, ◌≤◌, ◌+◌, ◌*◌, ℕ, zero, suc, List, ◌++◌, length, get_or, None, Some, Ok, Err}
use Rattle.std.proofs.Common.{inl, inr, ap, arith, refl, subst, sym, length-append, append-nil, append_assoc}
use Rattle.std.proofs.Math.Nat.{suc-mul, zero-mul}
use Rattle.std.specs.List.{flat_map}
use Rattle.data_types.specs.promise.Value.{Value}
use Rattle.data_types.specs.promise.Value.Value.{Null}
use Rattle.data_types.specs.promise.KindTrees.{KindTree}
use Rattle.data_types.specs.promise.Ways.{steps_of}
use Rattle.layout_rules.specs.Found.{fault_of}
use Rattle.layout_rules.specs.promise.Walk.{first_fault}
use Rattle.layout_rules.specs.declared.rule.LayoutFault.{LayoutFault}
use Rattle.raw_array.specs.promise.Members.{ArrayTree}
use Rattle.raw_schema.specs.promise.Members.{SchemaTree}
use Rattle.root_check.specs.declared.own_schema.OwnSchemaFault.TheVariants as parts
use Rattle.arr_import.specs.Window.{Window, item_at, items_of}
use Rattle.layout_rules.specs.promise.Values.{each, value_at}
use Rattle.union_cols.proofs.Numbering.{get_or-each}
use Rattle.run_ends.specs.RunAnswers.{FailsIf, IsRunsFault, found_of, named}
use Rattle.run_ends.specs.promise.RunRules.{runs_fault}
use Rattle.run_ends.specs.promise.RunSchemas as found
use Rattle.run_ends.specs.promise.RunSchemas.{RunsOf}
use Rattle.run_ends.specs.promise.Runs.{RunTree, run_values}
use Rattle.run_ends.specs.declared.rule.RunsFault.{RunsFault}
use Rattle.run_ends.specs.declared.schema_fault.RunsSchemaFault.{RunsSchemaFault}
use Rattle.run_ends.specs.declared.schema_fault.RunsSchemaFault.TheVariants as faults
use Rattle.schema_check.specs.promise.Schemas.{TypedOf}
use Rattle.schema_check.specs.declared.schema.SchemaFault.TheVariants as schemas
use Rattle.tree_check.specs.Checks.{array_refused}
use Rattle.tree_check.specs.declared.fault.CheckFault.{CheckFault}
use Rattle.data_types.specs.promise.ValueTexts.{lines_text, value_line}
use Rattle.value_text.proofs.Parts.{lines-more}
use Rattle.value_text.specs.Lengths.{capped}
use Rattle.tree_top.specs.promise.FlatAnswer.{FlatAnswer}
use Rattle.tree_top.specs.AnswerParts.{flat_unless, runs_of_array}
use Rattle.tree_top.specs.Refusals.{fault_of_check}
use Rattle.tree_top.specs.RunLines.{Reaches}
use Rattle.tree_top.specs.promise.RunRefusals.{runs_fault_told}
use Rattle.tree_top.specs.RunRefusals.{fault_of_runs_schema}
use Rattle.tree_top.specs.promise.RunsAnswer.{RunsAnswer}
use Rattle.tree_top.specs.promise.TextOrFault.{Fault, Text}
use Rattle.tree_top.specs.declared.fault.TreeRunFault.{TreeRunFault}
use Rattle.tree_top.specs.declared.fault.TreeRunFault.TheVariants as run
use Rattle.tree_top.proofs.Coming.{IsRefused}

-- ---- the runs of a column

-- the fault of its array
pub column-refused : (schema : SchemaTree) (array : ArrayTree) (typed : KindTree) → TypedOf schema typed → (fault : LayoutFault) (checked : CheckFault)
    (told : TreeRunFault) → checked ≡ array_refused fault → told ≡ fault_of_check checked → first_fault typed array ≡ Some (fault_of fault)
    → IsRefused (RunsAnswer schema array) told
column-refused schema array typed kinds fault checked told same gives is =
    inr (Ok typed, kinds, ap Fault (gives ∙ ap fault_of_check same) ∙ ap (runs_of_array typed array) (sym is))

-- ---- the items of a window, as a list

length-each : {X : Type 0} → (f : ℕ → X) (a n : ℕ) → length (each f a n) ≡ n
length-each f a zero = refl
length-each f a (suc n) = ap suc (length-each f (suc a) n)

module _ (w : Window) (values : List Value) (same : items_of w ≡ values) (i : ℕ) (inside : i < length values) where
  pub inside-window : i < w.count
  inside-window =
      let many : w.count ≡ length values = sym (length-each (value_at w.typed w.array) w.start w.count) ∙ ap length same in
      omega (arith, many, inside)

  pub item-there : item_at w i ≡ get_or values i Null
  item-there = sym (get_or-each (value_at w.typed w.array) w.start w.count i Null inside-window) ∙ ap (λ vs. get_or vs i Null) same

-- ---- the items of a run-end encoded array

module _ (schema : SchemaTree) (array : ArrayTree) where
  runs_schema-comes : (fault : RunsSchemaFault) → FailsIf schema (named fault) → IsRefused (FlatAnswer schema array) (fault_of_runs_schema fault)
  runs_schema-comes faults.Released is = inr (Err found.IsReleased, is, refl)
  runs_schema-comes faults.Format is = inr (Err found.Format, is, refl)
  runs_schema-comes (faults.Meta fault) is = inr (Err (found.OwnPart (parts.Meta fault)), is, refl)
  runs_schema-comes faults.Dictionary is = inr (Err (found.OwnPart parts.Dictionary), is, refl)
  runs_schema-comes (faults.ChildCount count) is = inr (Err (found.ChildCount count), is, refl)
  runs_schema-comes (faults.Child child (schemas.At path rule)) is =
      inr (Err (found.Child (record { child = child; first = record { path = steps_of path; rule = rule } })), is, refl)
  runs_schema-comes (faults.Child child schemas.NoMemory) is = inl refl
  runs_schema-comes faults.EndsType is = inr (Err found.EndsType, is, refl)
  runs_schema-comes faults.NoMemory is = inl refl

  -- the fault of the schema
  pub runs_schema-refused : (fault : RunsSchemaFault) (told : TreeRunFault) → told ≡ fault_of_runs_schema fault → IsRunsFault schema fault
      → IsRefused (FlatAnswer schema array) told
  runs_schema-refused fault told gives is = subst (IsRefused (FlatAnswer schema array)) (sym gives) (runs_schema-comes fault is.1)

  module _ (u : RunTree) (kinds : RunsOf schema u) where
    -- the items of a lawful array
    pub flat-come : (text : List ℕ) → runs_fault u array ≡ None → text ≡ lines_text (run_values u array) → FlatAnswer schema array (Text text)
    flat-come text none is = (Ok u, kinds, ap (λ (t : List ℕ). Text t) is ∙ ap (flat_unless u array) (sym none))

    -- the fault of the array
    pub flat-refused : (fault : RunsFault) (told : TreeRunFault) → told ≡ run.Runs (runs_fault_told (found_of fault))
        → runs_fault u array ≡ Some (found_of fault) → IsRefused (FlatAnswer schema array) told
    flat-refused fault told gives is =
        subst (IsRefused (FlatAnswer schema array)) (sym gives) (inr (Ok u, kinds, ap (flat_unless u array) (sym is)))

-- the lines from the first item on
pub lines-more-at : (f : ℕ → Value) (n : ℕ) → flat_map value_line (each f 0 (n + 1)) ≡ flat_map value_line (each f 0 n) ++ value_line (f n)
lines-more-at f n =
    let from : 0 + n ≡ n = omega arith in
    lines-more f 0 n ∙ ap (λ k. flat_map value_line (each f 0 n) ++ value_line (f k)) from

-- the lines from an item on behind those before it
pub lines-joined : (f : ℕ → Value) (i n : ℕ) → flat_map value_line (each f 0 (i + n)) ≡ flat_map value_line (each f 0 i) ++ flat_map value_line (each f i n)
lines-joined f i zero =
    let e : i + 0 ≡ i = omega arith in
    ap (λ k. flat_map value_line (each f 0 k)) e ∙ sym (append-nil (flat_map value_line (each f 0 i)))
lines-joined f i (suc n) =
    let e : i + suc n ≡ i + n + 1 = omega arith in
    let more : n + 1 ≡ suc n = omega arith in
    let before = flat_map value_line (each f 0 i) in
    let last = value_line (f (i + n)) in
    ap (λ k. flat_map value_line (each f 0 k)) e ∙ lines-more-at f (i + n) ∙ ap (λ text. text ++ last) (lines-joined f i n)
    ∙ append_assoc before (flat_map value_line (each f i n)) last
    ∙ ap (λ text. before ++ text) (sym (lines-more f i n) ∙ ap (λ k. flat_map value_line (each f i k)) more)

-- lines that are all one item's
pub same-lines-more : (f : ℕ → Value) (i n : ℕ) → ((j : ℕ) → i ≤ j → j < i + n → f j ≡ f i)
    → length (flat_map value_line (each f 0 (i + n))) ≡ length (flat_map value_line (each f 0 i)) + n * length (value_line (f i))
same-lines-more f i zero same =
    let e : i + 0 ≡ i = omega arith in
    let none : zero * length (value_line (f i)) ≡ 0 = zero-mul (length (value_line (f i))) in
    omega (arith, ap (λ k. length (flat_map value_line (each f 0 k))) e, none)
same-lines-more f i (suc n) same =
    let e : i + suc n ≡ i + n + 1 = omega arith in
    let before = same-lines-more f i n (λ j from to. same j from (omega (arith, to))) in
    let long : length (flat_map value_line (each f 0 (i + n + 1))) ≡ length (flat_map value_line (each f 0 (i + n))) + length (value_line (f (i + n))) =
    ap length (lines-more-at f (i + n)) ∙ length-append (flat_map value_line (each f 0 (i + n))) (value_line (f (i + n))) in
    let last = ap (λ v. length (value_line v)) (same (i + n) (omega arith) (omega arith)) in
    let one : suc n * length (value_line (f i)) ≡ n * length (value_line (f i)) + length (value_line (f i)) = suc-mul n (length (value_line (f i))) in
    omega (arith, ap (λ k. length (flat_map value_line (each f 0 k))) e, before, long, last, one)

pub capped-times : (n l : ℕ) → capped (n * capped l) ≡ capped (n * l)
capped-times zero l = ap capped (zero-mul (capped l) ∙ sym (zero-mul l))
capped-times (suc n) l =
    omega (arith, suc-mul n (capped l), suc-mul n l, capped-times n l)

module _ (u : RunTree) (array : ArrayTree) where
  -- a run is behind
  pub reaches-end : (i run stop : ℕ) → i < stop → Reaches u array i run stop → Reaches u array stop run stop
  reaches-end i run stop lt is = record {
    ordered = omega arith;
    within = is.within;
    same = λ j from to. absurd (omega (arith, from, to));
    next = is.next;
  }

  -- an item is behind
  pub reaches-more : (i run stop : ℕ) → i < stop → Reaches u array i run stop → Reaches u array (i + 1) run stop
  reaches-more i run stop lt is = record {
    ordered = omega (arith, lt);
    within = is.within;
    same = λ j from to. is.same j (omega (arith, from)) to;
    next = is.next;
  }
