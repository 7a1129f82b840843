-- A schema whose metadata are bytes has kinds or a first fault.
use Rattle.std.proofs.Common.{◌≡◌, ◌⊎◌, inl, inr, ◌∙◌, ℕ, suc, ◌+◌, ◌<◌, ◌≤◌, true, false, List, [], ◌∷◌, codes, Option, None, Some, Result, Ok, Err, refl, sym, subst}
use Rattle.std.proofs.lemmas.Bool.{cases_Bool, cases_eq, cases_lt, false≢true}
use Rattle.std.proofs.lemmas.Slice.Eq.{bytes_eq-Decides}
use Rattle.std.specs.Str.{bytes_eq}
use Rattle.fmt_string.specs.Answer.{Reads as FormatReads}
use Rattle.fmt_string.specs.promise.FormatString.{FormatIs}
use Rattle.fmt_string.specs.declared.fault.FormatFault.{FormatFault}
use Rattle.fmt_string.specs.declared.fault.FormatFault.TheVariants as format
use Rattle.data_types.specs.declared.kind.DataType.{DataType}
use Rattle.data_types.specs.declared.kind.DataType.TheVariants as kinds
use Rattle.schema_meta.specs.promise.Meta.{MetaFaultIs}
use Rattle.schema_meta.specs.Meta.{Reads as MetaReads}
use Rattle.schema_meta.specs.declared.fault.MetaFault.{MetaFault}
use Rattle.schema_meta.specs.declared.fault.MetaFault.TheVariants as meta
use Rattle.schema_meta.specs.declared.pair.Pair.{Pair}
use Rattle.tree_model.specs.promise.TreeData.{Released, Live, Trees, no_trees, more_trees, MaybeTree, absent, present}
use Rattle.raw_schema.specs.promise.Members.{SchemaMembers, SchemaTree, members_of}
use Rattle.data_types.specs.promise.KindTrees.{KindTree, tree_count}
use Rattle.schema_check.specs.promise.SchemaAnswers.{FirstFault, MetaRefused, SchemaReads}
use Rattle.schema_check.specs.promise.Schemas.{ChildrenFit, DictFault, DictTyped, FailsHere, FaultFrom, IndexFits, IsPairNode, IsPairSchema}
use Rattle.schema_check.specs.promise.Schemas.{KidFault, KidsTyped, MapFits, MetaFits}
use Rattle.schema_check.specs.promise.Schemas.{NodeIs, TypedFrom}
use Rattle.data_types.specs.promise.Ways.{Steps, dictionary_step}
use Rattle.schema_check.specs.declared.rule.SchemaRule.{SchemaRule}
use Rattle.schema_check.specs.declared.rule.SchemaRule.TheVariants as rules
use Rattle.tree_text.specs.promise.TreeText.{AllFit, AreBytesIf, MaybeFits, SchemaNodeFits, TreeFits}
use Rattle.tree_check.proofs.SomeMeta.{some-meta}

-- ---- the rules of one node, met or not

abbrev Decided : Type 0 → Type 0
Decided P = P ⊎ (P → ⊥)

children-fit : (kind : DataType) (kids : Trees SchemaMembers) → Decided (ChildrenFit kind kids)
children-fit (kinds.List wide) kids = cases_eq (tree_count kids) 1
children-fit (kinds.FixedList size) kids = cases_eq (tree_count kids) 1
children-fit kinds.Map kids = cases_eq (tree_count kids) 1
children-fit kinds.Struct kids = inl tt
children-fit _ kids = cases_eq (tree_count kids) 0

index-fits : (kind : DataType) (dict : MaybeTree SchemaMembers) → Decided (IndexFits kind dict)
index-fits kind absent = inl tt
index-fits (kinds.Int bits signed) (present dict) = inl tt
index-fits _ (present dict) = inr (λ x. x)

pair-node : (t : SchemaTree) → Decided (IsPairNode t)
pair-node Released = inr (λ x. x)
pair-node (Live s kids dict) = go (cases_Bool (bytes_eq s.format (codes "+s"))) (cases_eq (tree_count kids) 2)
  where
    go : (bytes_eq s.format (codes "+s") ≡ true) ⊎ (bytes_eq s.format (codes "+s") ≡ false) → Decided (tree_count kids ≡ 2)
        → Decided (IsPairNode (Live s kids dict))
    go (inl same) (inl two) = inl ((bytes_eq-Decides s.format (codes "+s")).0 same, two)
    go (inl same) (inr other) = inr (λ x. other x.1)
    go (inr other) count = inr (λ x. false≢true (sym other ∙ (bytes_eq-Decides s.format (codes "+s")).1 x.0))

pair-schema : (kids : Trees SchemaMembers) → Decided (IsPairSchema kids)
pair-schema no_trees = inr (λ x. x)
pair-schema (more_trees kid rest) = pair-node kid

map-fits : (kind : DataType) (kids : Trees SchemaMembers) → Decided (MapFits kind kids)
map-fits kinds.Map kids = pair-schema kids
map-fits _ kids = inl tt

-- metadata fits, or is refused
abbrev MetaIsNot : Option (List ℕ) → Type 0
MetaIsNot metadata = (fault : MetaFault) × (bytes : List ℕ) × (metadata ≡ Some bytes) × MetaFaultIs bytes fault

meta-fits : (metadata : Option (List ℕ)) → AreBytesIf metadata → MetaFits metadata ⊎ MetaIsNot metadata
meta-fits None all = inl tt
meta-fits (Some bytes) all = go (some-meta bytes all)
  where
    go : (read : Result (List Pair) MetaFault) × MetaReads bytes read → MetaFits (Some bytes) ⊎ MetaIsNot (Some bytes)
    go (Ok pairs, is) = inl (pairs, is)
    go (Err fault, is) = inr (fault, bytes, refl, is)

-- ---- a node

module _ (some-format : (text : List ℕ) → (read : Result DataType FormatFault) × FormatReads text read) where
  module _ (level : ℕ) (low : level ≤ 64) (s : SchemaMembers) (kids : Trees SchemaMembers) (dict : MaybeTree SchemaMembers) (all : AreBytesIf s.metadata) where
    abbrev Node : Type 0
    Node = ((kind : DataType) × NodeIs level s kids dict kind) ⊎ ((rule : SchemaRule) × FailsHere level (Live s kids dict) rule)

    module _ (kind : DataType) (is : FormatIs s.format kind) where
      refused : (fault : MetaFault) (bytes : List ℕ) → s.metadata ≡ Some bytes → MetaFaultIs bytes fault → FailsHere level (Live s kids dict) (rules.Meta fault)
      refused meta.NoMemory bytes some fault = fault
      refused (meta.Short p) bytes some fault = (low, kind, is, bytes, some, fault)
      refused (meta.Negative p) bytes some fault = (low, kind, is, bytes, some, fault)
      refused (meta.Trailing p) bytes some fault = (low, kind, is, bytes, some, fault)

      mapped : MetaFits s.metadata → ChildrenFit kind kids → IndexFits kind dict → Decided (MapFits kind kids) → Node
      mapped fits count index (inl map) =
          inl (kind, record { on_level = low; format = is; meta = fits; children = count; index = index; map = map })
      mapped fits count index (inr none) = inr (rules.MapShape, (low, kind, is, fits, count, index, none))

      indexed : MetaFits s.metadata → ChildrenFit kind kids → Decided (IndexFits kind dict) → Node
      indexed fits count (inl index) = mapped fits count index (map-fits kind kids)
      indexed fits count (inr none) = inr (rules.DictIndexType, (low, kind, is, fits, count, none))

      counted : MetaFits s.metadata → Decided (ChildrenFit kind kids) → Node
      counted fits (inl count) = indexed fits count (index-fits kind dict)
      counted fits (inr none) = inr (rules.ChildCount, (low, kind, is, fits, none))

      told : MetaFits s.metadata ⊎ MetaIsNot s.metadata → Node
      told (inl fits) = counted fits (children-fit kind kids)
      told (inr fault) = inr (rules.Meta fault.0, refused fault.0 fault.1 fault.2 fault.3)

    formed : (read : Result DataType FormatFault) → FormatReads s.format read → Node
    formed (Ok kind) is = told kind is (meta-fits s.metadata all)
    formed (Err (format.At rule place)) is = inr (rules.Format (format.At rule place), (low, is))
    formed (Err format.NoMemory) is = absurd is

    node : Node
    node = let read = some-format s.format in formed read.0 read.1

  -- ---- a tree

  abbrev Tree : ℕ → SchemaTree → Type 0
  Tree level t = ((typed : KindTree) × TypedFrom level t typed) ⊎ ((path : Steps) × (rule : SchemaRule) × FaultFrom level t path rule)

  abbrev Kids : ℕ → Trees SchemaMembers → ℕ → Type 0
  Kids level kids k =
      ((typed : Trees DataType) × KidsTyped level kids typed)
      ⊎ ((step : ℕ) × (path : Steps) × (rule : SchemaRule) × KidFault level kids k step path rule)

  abbrev Dict : ℕ → MaybeTree SchemaMembers → Type 0
  Dict level dict =
      ((typed : MaybeTree DataType) × DictTyped level dict typed) ⊎ ((path : Steps) × (rule : SchemaRule) × DictFault level dict path rule)

  parts : (level : ℕ) (s : SchemaMembers) (kids : Trees SchemaMembers) (dict : MaybeTree SchemaMembers) (kind : DataType) → NodeIs level s kids dict kind
      → Kids (level + 1) kids 0 → Dict (level + 1) dict → Tree level (Live s kids dict)
  parts level s kids dict kind is (inr fault) below = inr (fault.0 ∷ fault.1, fault.2, ((kind, is), inl fault.3))
  parts level s kids dict kind is (inl typed) (inr fault) =
      inr (dictionary_step ∷ fault.0, fault.1, ((kind, is), inr (refl, typed, fault.2)))
  parts level s kids dict kind is (inl typed) (inl below) = inl (Live kind typed.0 below.0, (is, typed.1, below.1))

  whole : (level : ℕ) (s : SchemaMembers) (kids : Trees SchemaMembers) (dict : MaybeTree SchemaMembers)
      → ((kind : DataType) × NodeIs level s kids dict kind) ⊎ ((rule : SchemaRule) × FailsHere level (Live s kids dict) rule)
      → Kids (level + 1) kids 0 → Dict (level + 1) dict → Tree level (Live s kids dict)
  whole level s kids dict (inl node) below dictionary = parts level s kids dict node.0 node.1 below dictionary
  whole level s kids dict (inr fault) below dictionary = inr ([], fault.0, fault.1)

  live-if : (level : ℕ) (s : SchemaMembers) (kids : Trees SchemaMembers) (dict : MaybeTree SchemaMembers) → AreBytesIf s.metadata
      → (64 < level) ⊎ (level ≤ 64) → Kids (level + 1) kids 0 → Dict (level + 1) dict → Tree level (Live s kids dict)
  live-if level s kids dict all (inl deep) below dictionary = inr ([], rules.Deep, deep)
  live-if level s kids dict all (inr low) below dictionary = whole level s kids dict (node level low s kids dict all) below dictionary

  released-if : (level : ℕ) → (64 < level) ⊎ (level ≤ 64) → Tree level Released
  released-if level (inl deep) = inr ([], rules.Deep, deep)
  released-if level (inr low) = inr ([], rules.Released, low)

  more-kids : (level : ℕ) (kid : SchemaTree) (kids : Trees SchemaMembers) (k : ℕ) → Tree level kid → Kids level kids (suc k)
      → Kids level (more_trees kid kids) k
  more-kids level kid kids k (inr fault) rest = inr (k, fault.0, fault.1, inl (refl, fault.2))
  more-kids level kid kids k (inl typed) (inr fault) = inr (fault.0, fault.1, fault.2, inr (typed, fault.3))
  more-kids level kid kids k (inl typed) (inl rest) = inl (more_trees typed.0 rest.0, (typed.1, rest.1))

  one-dict : (level : ℕ) (dict : SchemaTree) → Tree level dict → Dict level (present dict)
  one-dict level dict (inl typed) = inl (present typed.0, typed.1)
  one-dict level dict (inr fault) = inr (fault.0, fault.1, fault.2)

  mutual
    tree : (level at : ℕ) (t : SchemaTree) → TreeFits SchemaNodeFits at t → Tree level t
    tree level at Released fits = released-if level (cases_lt 64 level)
    tree level at (Live s kids dict) fits =
        live-if level s kids dict fits.1.metadata (cases_lt 64 level) (kids-of (level + 1) (at + 1) kids 0 fits.2) (dict-of (level + 1) (at + 1) dict fits.3)

    kids-of : (level at : ℕ) (kids : Trees SchemaMembers) (k : ℕ) → AllFit SchemaNodeFits at kids → Kids level kids k
    kids-of level at no_trees k fits = inl (no_trees, tt)
    kids-of level at (more_trees kid kids) k fits = more-kids level kid kids k (tree level at kid fits.0) (kids-of level at kids (suc k) fits.1)

    dict-of : (level at : ℕ) (dict : MaybeTree SchemaMembers) → MaybeFits SchemaNodeFits at dict → Dict level dict
    dict-of level at absent fits = inl (absent, tt)
    dict-of level at (present dict) fits = one-dict level dict (tree level at dict fits)

  read-of : (t : SchemaTree) → Tree 1 t → (read : Result KindTree FirstFault) × SchemaReads t read
  read-of t (inl typed) = (Ok typed.0, typed.1)
  read-of t (inr fault) = (Err (record { path = fault.0; rule = fault.1 }), fault.2)

  pub some-schema : (at : ℕ) (t : SchemaTree) → TreeFits SchemaNodeFits at t → (read : Result KindTree FirstFault) × SchemaReads t read
  some-schema at t fits = read-of t (tree 1 at t fits)

-- ---- a root's metadata

refused-if : (metadata : Option (List ℕ)) → MetaFits metadata ⊎ MetaIsNot metadata → MetaFits metadata ⊎ ((fault : MetaFault) × MetaRefused metadata fault)
refused-if metadata (inl fits) = inl fits
refused-if metadata (inr not) = inr (not.0, subst (λ m. MetaRefused m not.0) (sym not.2) not.3)

pub some-metadata : (at : ℕ) (t : SchemaTree) → TreeFits SchemaNodeFits at t
    → MetaFits (members_of t).metadata ⊎ ((fault : MetaFault) × MetaRefused (members_of t).metadata fault)
some-metadata at Released fits = inl tt
some-metadata at (Live s kids dict) fits = refused-if s.metadata (meta-fits s.metadata fits.1.metadata)
