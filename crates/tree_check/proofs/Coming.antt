-- What the check of a text comes to, from what its parts come to.
use Rattle.std.proofs.Common.{◌≡◌, ◌≢◌, ◌∙◌, ℕ, List, None, Some, Ok, Err, ap, sym, refl, subst}
use Rattle.raw_schema.specs.promise.Members.{SchemaTree}
use Rattle.raw_array.specs.promise.Members.{ArrayTree}
use Rattle.data_types.specs.promise.Ways.{steps_of}
use Rattle.layout_rules.specs.Found.{fault_of}
use Rattle.data_types.specs.promise.KindTrees.{KindTree}
use Rattle.schema_check.specs.SchemaAnswers.{IsFirstFault}
use Rattle.schema_check.specs.promise.Schemas.{TypedOf}
use Rattle.layout_rules.specs.promise.Walk.{first_fault}
use Rattle.layout_rules.specs.declared.rule.LayoutFault.{LayoutFault}
use Rattle.schema_check.specs.declared.schema.SchemaFault.{SchemaFault}
use Rattle.schema_check.specs.declared.schema.SchemaFault.TheVariants as schemas
use Rattle.tree_text.specs.promise.Answers.{Reads}
use Rattle.tree_text.specs.promise.Report.{ReportOf}
use Rattle.tree_text.specs.declared.fault.TextFault.{TextFault}
use Rattle.tree_text.specs.declared.fault.TextFault.TheVariants as texts
use Rattle.tree_check.specs.promise.Checks.{Checked, ChecksTo, TreesCome, array_if}
use Rattle.tree_check.specs.Checks.{IsToldOf, array_refused, schema_refused, text_refused}
use Rattle.tree_check.specs.declared.fault.CheckFault.{CheckFault}
use Rattle.tree_check.specs.declared.fault.CheckFault.TheVariants as check

module _ (schema : SchemaTree) (array : ArrayTree) where
  -- the fault of a schema
  schema-comes : (fault : SchemaFault) → IsFirstFault schema fault → IsToldOf (TreesCome schema array) (schema_refused fault)
  schema-comes (schemas.At path rule) is = (Err (record { path = steps_of path; rule = rule }), is, refl)
  schema-comes schemas.NoMemory is = tt

  pub schema-refused : (fault : SchemaFault) (told : CheckFault) → told ≡ schema_refused fault → IsFirstFault schema fault
      → IsToldOf (TreesCome schema array) told
  schema-refused fault told gives is = subst (IsToldOf (TreesCome schema array)) (sym gives) (schema-comes fault is)

  module _ (typed : KindTree) (kinds : TypedOf schema typed) where
    -- the report of a lawful array
    pub report-comes : (text : List ℕ) → first_fault typed array ≡ None → text ≡ ReportOf typed array → TreesCome schema array (Ok text)
    report-comes text none is = (Ok typed, kinds, ap (λ (t : List ℕ). Ok t) is ∙ ap (array_if typed array) (sym none))

    -- the fault of an array
    pub array-refused : (fault : LayoutFault) (told : CheckFault) → told ≡ array_refused fault → first_fault typed array ≡ Some (fault_of fault)
        → IsToldOf (TreesCome schema array) told
    array-refused fault told gives is =
        subst (IsToldOf (TreesCome schema array)) (sym gives) (Ok typed, kinds, ap (array_if typed array) (sym is))

module _ (bytes : List ℕ) where
  text-comes : (fault : TextFault) → (fault ≢ texts.NoMemory → Reads bytes (Err fault)) → IsToldOf (ChecksTo bytes) (text_refused fault)
  text-comes (texts.Line line) is = record { read = Err (texts.Line line); reads = is (λ e. cc); comes = refl }
  text-comes texts.TooManyLines is = record { read = Err texts.TooManyLines; reads = is (λ e. cc); comes = refl }
  text-comes texts.NoMemory is = tt

  -- the fault of a text
  pub text-refused : (fault : TextFault) (told : CheckFault) → told ≡ text_refused fault → (fault ≢ texts.NoMemory → Reads bytes (Err fault))
      → IsToldOf (ChecksTo bytes) told
  text-refused fault told gives is = subst (IsToldOf (ChecksTo bytes)) (sym gives) (text-comes fault is)

  module _ (schema : SchemaTree) (array : ArrayTree) (reads : Reads bytes (Ok (schema, array))) where
    pub read-comes : (checked : Checked) → TreesCome schema array checked → ChecksTo bytes checked
    read-comes checked comes = record { read = Ok (schema, array); reads = reads; comes = comes }

    -- what was read of a text comes to what its trees come to
    pub read-told : (told : CheckFault) → IsToldOf (TreesCome schema array) told → IsToldOf (ChecksTo bytes) told
    read-told (check.Tree fault) is = read-comes (Err fault) is
    read-told check.NoMemory is = tt
