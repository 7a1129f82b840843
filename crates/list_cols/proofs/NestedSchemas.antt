-- What the schema of a chunk is that can be grouped, and which fault its rows have.
use Rattle.std.proofs.Common.{◌≡◌, ◌∙◌, ◌<◌, ◌⊎◌, inl, inr, ℕ, zero, suc, List, Bool, true, false, length, get_or, Option, None, Some, refl, ap, sym, subst, arith}
use Rattle.std.proofs.lemmas.Option.{none-some}
use Rattle.data_types.specs.promise.Table.{Flat, Row}
use Rattle.data_types.specs.declared.kind.DataType.{DataType}
use Rattle.tree_model.specs.promise.TreeParts.{IsLive, child_at, children_of, dictionary_of}
use Rattle.tree_model.specs.promise.TreeData.{Released, Live, Trees, no_trees, more_trees, absent, present, tree_list}
use Rattle.arr_move.proofs.Filled.{Depth-child_at}
use Rattle.raw_schema.specs.promise.Members.{SchemaMembers, SchemaTree}
use Rattle.data_types.specs.promise.ColumnKinds.{type_of_kind}
use Rattle.data_types.specs.promise.KindTrees.{KindTree, kind_in}
use Rattle.data_types.specs.KindTrees.{AllNodesOk, NodesOk, TypedOk}
use Rattle.schema_check.specs.promise.Schemas.{KidsTyped, TypedOf}
use Rattle.list_cols.specs.promise.Faults.{fault_of, first_wrong}
use Rattle.list_cols.specs.Faults.{IsRefusedBy, nests}
use Rattle.list_cols.specs.promise.NestFaults.{is_nest_too_long, nest_fault}
use Rattle.list_cols.specs.declared.fault.ListFault.{ListFault}
use Rattle.list_cols.specs.declared.fault.ListFault.TheVariants.{WrongKind, TooLong, NoMemory}
use Rattle.list_cols.proofs.Kids.{flat-dictionary, flat-form, none-wrong}
use Rattle.list_cols.proofs.NestedChunks.{FlatLaw}

-- ---- the schema

pub schema-live : (schema : SchemaTree) (typed : KindTree) → TypedOf schema typed → IsLive schema
schema-live Released typed t = absurd t
schema-live (Live s fields dict) typed t = tt

pub no-dictionary : (schema : SchemaTree) (typed : KindTree) → TypedOf schema typed → dictionary_of typed ≡ None → dictionary_of schema ≡ None
no-dictionary Released typed t none = absurd t
no-dictionary (Live s fields dict) Released t none = absurd t
no-dictionary (Live s fields absent) (Live kind kids d) t none = refl
no-dictionary (Live s fields (present d)) (Live kind kids absent) t none = absurd t.2
no-dictionary (Live s fields (present d)) (Live kind kids (present e)) t none = absurd (none-some e (sym none))

many-kids : (level : ℕ) (fields : Trees SchemaMembers) (kids : Trees DataType) → KidsTyped level fields kids → length (tree_list fields) ≡ length (tree_list kids)
many-kids level no_trees no_trees t = refl
many-kids level no_trees (more_trees kid kids) t = absurd t
many-kids level (more_trees field fields) no_trees t = absurd t
many-kids level (more_trees field fields) (more_trees kid kids) t = ap suc (many-kids level fields kids t.1)

live-kids : (level : ℕ) (fields : Trees SchemaMembers) (kids : Trees DataType) → KidsTyped level fields kids → (k : ℕ) → k < length (tree_list fields)
    → IsLive (get_or (tree_list fields) k Released)
live-kids level no_trees kids t k lt = absurd (omega (arith, lt))
live-kids level (more_trees field fields) no_trees t k lt = absurd t
live-kids level (more_trees Released fields) (more_trees kid kids) t zero lt = absurd t.0
live-kids level (more_trees (Live s f d) fields) (more_trees kid kids) t zero lt = tt
live-kids level (more_trees field fields) (more_trees kid kids) t (suc k) lt = live-kids level fields kids t.1 k (omega (arith, lt))

pub many-fields : (schema : SchemaTree) (typed : KindTree) → TypedOf schema typed → length (children_of schema) ≡ length (children_of typed)
many-fields Released typed t = absurd t
many-fields (Live s fields dict) Released t = absurd t
many-fields (Live s fields dict) (Live kind kids d) t = many-kids 2 fields kids t.1

pub live-fields : (schema : SchemaTree) (typed : KindTree) → TypedOf schema typed → (k : ℕ) → k < length (children_of schema) → IsLive (child_at schema k)
live-fields Released typed t k lt = absurd t
live-fields (Live s fields dict) Released t k lt = absurd t
live-fields (Live s fields dict) (Live kind kids d) t k lt = live-kids 2 fields kids t.1 k lt

-- ---- the kinds of the columns

each-ok : (kids : Trees DataType) (k : ℕ) → k < length (tree_list kids) → AllNodesOk kids → NodesOk (get_or (tree_list kids) k Released)
each-ok no_trees k lt ok = absurd (omega (arith, lt))
each-ok (more_trees kid kids) zero lt ok = ok.0
each-ok (more_trees kid kids) (suc k) lt ok = each-ok kids k (omega (arith, lt)) ok.1

child-ok : (typed : KindTree) → TypedOk typed → (k : ℕ) → k < length (children_of typed) → TypedOk (child_at typed k)
child-ok Released ok k lt = absurd ok.1
child-ok (Live kind kids d) ok k lt = (
  omega (arith, Depth-child_at (Live kind kids d) k lt, ok.0),
  each-ok kids k lt ok.1.3,
)

pub all-flat : FlatLaw → (typed : KindTree) → TypedOk typed → first_wrong nests 0 (children_of typed) ≡ None → (k : ℕ) → k < length (children_of typed)
    → child_at typed k ≡ type_of_kind (Flat (kind_in (child_at typed k)))
all-flat flats typed ok fitting k lt =
    let good = none-wrong nests 0 (children_of typed) fitting k lt in
    flats (child_at typed k) (child-ok typed ok k lt) (flat-form (child_at typed k) good) (flat-dictionary (child_at typed k) good)

-- ---- the fault

abbrev pub wrong : KindTree → Option ℕ
wrong typed = first_wrong nests 0 (children_of typed)

abbrev pub long : ℕ → KindTree → List Row → Bool
long column typed rows = is_nest_too_long (length (children_of typed)) column rows

pub refused-wrong : (column : ℕ) (typed : KindTree) (rows : List Row) (k : ℕ) → wrong typed ≡ Some k → nest_fault column typed rows ≡ Some (WrongKind k)
refused-wrong column typed rows k e = ap (λ w. fault_of w (long column typed rows)) e

pub refused-long : (column : ℕ) (typed : KindTree) (rows : List Row) (fault : ListFault) → wrong typed ≡ None
    → (fault ≡ NoMemory) ⊎ ((fault ≡ TooLong) × (long column typed rows ≡ true)) → IsRefusedBy (nest_fault column typed rows) fault
refused-long column typed rows fault none (inl e) = subst (IsRefusedBy (nest_fault column typed rows)) (sym e) tt
refused-long column typed rows fault none (inr e) =
    let is = ap (λ w. fault_of w (long column typed rows)) none ∙ ap (fault_of None) e.1 in
    subst (IsRefusedBy (nest_fault column typed rows)) (sym e.0) is

pub not-refused : (column : ℕ) (typed : KindTree) (rows : List Row) → wrong typed ≡ None → long column typed rows ≡ false → nest_fault column typed rows ≡ None
not-refused column typed rows none short = ap (λ w. fault_of w (long column typed rows)) none ∙ ap (fault_of None) short

pub no-column : (typed : KindTree) (k : ℕ) → wrong typed ≡ None → wrong typed ≡ Some k → ⊥
no-column typed k none some = none-some k (sym none ∙ some)
