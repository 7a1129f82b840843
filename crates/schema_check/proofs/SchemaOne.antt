-- A schema has one tree of kinds or one first fault.
use Rattle.std.proofs.Common.{◌≡◌, ℕ, suc, ◌+◌, ◌<◌, ◌≤◌, List, [], ◌∷◌, Option, Some, Result, Ok, Err, refl, sym, ap, subst, ◌∙◌, inl, inr, arith}
use Rattle.std.specs.Prelude.{IfOk, IfErr}
use Rattle.std.proofs.lemmas.Bool.{cases_lt}
use Rattle.data_types.specs.declared.kind.DataType.{DataType}
use Rattle.fmt_string.specs.declared.fault.FormatRule.{FormatRule}
use Rattle.fmt_string.specs.declared.fault.FormatFault.{FormatFault}
use Rattle.fmt_string.specs.declared.fault.FormatFault.TheVariants as format
use Rattle.fmt_string.specs.promise.FormatString.{FormatIs, FormatFaultIs}
use Rattle.fmt_string.specs.Answer.{Reads as FormatReads}
use Rattle.schema_meta.specs.declared.pair.Pair.{Pair}
use Rattle.schema_meta.specs.declared.fault.MetaFault.{MetaFault}
use Rattle.schema_meta.specs.declared.fault.MetaFault.TheVariants as meta
use Rattle.schema_meta.specs.promise.Meta.{MetaFaultIs}
use Rattle.schema_meta.specs.Meta.{Reads as MetaReads}
use Rattle.tree_model.specs.promise.TreeData.{Released, Live, Trees, no_trees, more_trees, MaybeTree, absent, present}
use Rattle.raw_schema.specs.promise.Members.{SchemaMembers, SchemaTree}
use Rattle.schema_check.specs.declared.rule.SchemaRule.{SchemaRule}
use Rattle.schema_check.specs.declared.rule.SchemaRule.TheVariants as rules
use Rattle.schema_check.specs.declared.schema.SchemaFault.{SchemaFault}
use Rattle.schema_check.specs.declared.schema.SchemaFault.TheVariants.{At, NoMemory}
use Rattle.data_types.specs.declared.typed.Typed.{Typed}
use Rattle.data_types.specs.promise.KindTrees.{KindTree}
use Rattle.data_types.specs.promise.TypedView.{typed_of}
use Rattle.data_types.specs.promise.Ways.{Steps, dictionary_step, steps_of}
use Rattle.schema_check.specs.promise.Schemas.{MetaFits, ChildrenFit, IndexFits, MapFits, NodeIs, KidsTyped, DictTyped, TypedFrom, TypedOf, FailsHere, FaultFrom}
use Rattle.schema_check.specs.promise.Schemas.{KidFault, DictFault}
use Rattle.schema_check.specs.promise.SchemaAnswers.{FirstFault, SchemaReads}
use Rattle.schema_check.specs.SchemaAnswers.{Gives, IsFirstFault}

abbrev pub FormatLaw : Type 0
FormatLaw = (text : List ℕ) (first second : Result DataType FormatFault) → FormatReads text first → FormatReads text second → first ≡ second

abbrev pub MetaLaw : Type 0
MetaLaw = (bytes : List ℕ) (first second : Result (List Pair) MetaFault) → MetaReads bytes first → MetaReads bytes second → first ≡ second

-- ---- a format, and metadata

pub one_kind : FormatLaw → (text : List ℕ) (a b : DataType) → FormatIs text a → FormatIs text b → a ≡ b
one_kind law text a b first second =
    let e : Ok a ≡ Ok b = law text (Ok a) (Ok b) first second in
    cc

no_kind : FormatLaw → (text : List ℕ) (kind : DataType) (rule : FormatRule) (place : ℕ) → FormatIs text kind → FormatFaultIs text rule place → ⊥
no_kind law text kind rule place is fails =
    let e : Ok kind ≡ Err (format.At rule place) = law text (Ok kind) (Err (format.At rule place)) is fails in
    absurd cc

one_format_fault : FormatLaw → (text : List ℕ) (a : FormatRule) (p : ℕ) (b : FormatRule) (q : ℕ) → FormatFaultIs text a p → FormatFaultIs text b q
    → format.At a p ≡ format.At b q
one_format_fault law text a p b q first second =
    let e : Err (format.At a p) ≡ Err (format.At b q) = law text (Err (format.At a p)) (Err (format.At b q)) first second in
    cc

-- metadata that is refused
abbrev Refused : Option (List ℕ) → MetaFault → Type 0
Refused metadata fault = (bytes : List ℕ) × (metadata ≡ Some bytes) × MetaFaultIs bytes fault

no_pairs : MetaLaw → (m : Option (List ℕ)) (fault : MetaFault) → Refused m fault → MetaFits m → ⊥
no_pairs law m fault h fits =
    let pairs : MetaFits (Some h.0) = subst MetaFits h.1 fits in
    let e : Ok pairs.0 ≡ Err fault = law h.0 (Ok pairs.0) (Err fault) pairs.1 h.2 in
    absurd cc

one_meta_fault : MetaLaw → (m : Option (List ℕ)) (a b : MetaFault) → Refused m a → Refused m b → a ≡ b
one_meta_fault law m a b first second =
    let same : Some second.0 ≡ Some first.0 = sym second.1 ∙ first.1 in
    let bytes : second.0 ≡ first.0 = cc in
    let e : Err a ≡ Err b = law first.0 (Err a) (Err b) first.2 (subst (λ (x : List ℕ). MetaFaultIs x b) bytes second.2) in
    cc

-- ---- one node

-- the place of a rule in the order
rank : SchemaRule → ℕ
rank rules.Deep = 0
rank rules.Released = 1
rank (rules.Format fault) = 2
rank (rules.Meta fault) = 3
rank rules.ChildCount = 4
rank rules.DictIndexType = 5
rank rules.MapShape = 6

rank_most : (rule : SchemaRule) → rank rule ≤ 6
unfolding rank
rank_most rules.Deep = omega arith
rank_most rules.Released = omega arith
rank_most (rules.Format fault) = omega arith
rank_most (rules.Meta fault) = omega arith
rank_most rules.ChildCount = omega arith
rank_most rules.DictIndexType = omega arith
rank_most rules.MapShape = omega arith

on_level : (level : ℕ) (s : SchemaMembers) (kids : Trees SchemaMembers) (dict : MaybeTree SchemaMembers) (rule : SchemaRule)
    → FailsHere level (Live s kids dict) rule → 0 < rank rule → level ≤ 64
unfolding rank
on_level level s kids dict rules.Deep h r = absurd (omega (arith, r))
on_level level s kids dict rules.Released h r = absurd h
on_level level s kids dict (rules.Format (format.At rule place)) h r = h.0
on_level level s kids dict (rules.Format format.NoMemory) h r = absurd h
on_level level s kids dict (rules.Meta meta.NoMemory) h r = absurd h
on_level level s kids dict (rules.Meta (meta.Short p)) h r = h.0
on_level level s kids dict (rules.Meta (meta.Negative p)) h r = h.0
on_level level s kids dict (rules.Meta (meta.Trailing p)) h r = h.0
on_level level s kids dict rules.ChildCount h r = h.0
on_level level s kids dict rules.DictIndexType h r = h.0
on_level level s kids dict rules.MapShape h r = h.0

formatted : (level : ℕ) (s : SchemaMembers) (kids : Trees SchemaMembers) (dict : MaybeTree SchemaMembers) (rule : SchemaRule)
    → FailsHere level (Live s kids dict) rule → 2 < rank rule
    → (kind : DataType) × FormatIs s.format kind
unfolding rank
formatted level s kids dict rules.Deep h r = absurd (omega (arith, r))
formatted level s kids dict rules.Released h r = absurd h
formatted level s kids dict (rules.Format fault) h r = absurd (omega (arith, r))
formatted level s kids dict (rules.Meta meta.NoMemory) h r = absurd h
formatted level s kids dict (rules.Meta (meta.Short p)) h r = (h.1, h.2)
formatted level s kids dict (rules.Meta (meta.Negative p)) h r = (h.1, h.2)
formatted level s kids dict (rules.Meta (meta.Trailing p)) h r = (h.1, h.2)
formatted level s kids dict rules.ChildCount h r = (h.1, h.2)
formatted level s kids dict rules.DictIndexType h r = (h.1, h.2)
formatted level s kids dict rules.MapShape h r = (h.1, h.2)

meta_fits : (level : ℕ) (s : SchemaMembers) (kids : Trees SchemaMembers) (dict : MaybeTree SchemaMembers) (rule : SchemaRule)
    → FailsHere level (Live s kids dict) rule → 3 < rank rule → MetaFits s.metadata
unfolding rank
meta_fits level s kids dict rules.ChildCount h r = h.3
meta_fits level s kids dict rules.DictIndexType h r = h.3
meta_fits level s kids dict rules.MapShape h r = h.3
meta_fits level s kids dict rule h r = absurd (omega (arith, r))

children_fit : (level : ℕ) (s : SchemaMembers) (kids : Trees SchemaMembers) (dict : MaybeTree SchemaMembers) (rule : SchemaRule)
    → FailsHere level (Live s kids dict) rule → 4 < rank rule
    → (kind : DataType) × FormatIs s.format kind × ChildrenFit kind kids
unfolding rank
children_fit level s kids dict rules.DictIndexType h r = (h.1, h.2, h.4)
children_fit level s kids dict rules.MapShape h r = (h.1, h.2, h.4)
children_fit level s kids dict rule h r = absurd (omega (arith, r))

meta_refused : (level : ℕ) (s : SchemaMembers) (kids : Trees SchemaMembers) (dict : MaybeTree SchemaMembers) (fault : MetaFault)
    → FailsHere level (Live s kids dict) (rules.Meta fault) → Refused s.metadata fault
meta_refused level s kids dict meta.NoMemory h = absurd h
meta_refused level s kids dict (meta.Short p) h = (h.3, h.4, h.5)
meta_refused level s kids dict (meta.Negative p) h = (h.3, h.4, h.5)
meta_refused level s kids dict (meta.Trailing p) h = (h.3, h.4, h.5)

-- ---- the kinds of a tree

mutual
  typed_once : FormatLaw → (level : ℕ) (t : SchemaTree) (a b : KindTree) → TypedFrom level t a → TypedFrom level t b → a ≡ b
  typed_once formats level Released a b first second = absurd first
  typed_once formats level (Live s kids dict) Released b first second = absurd first
  typed_once formats level (Live s kids dict) (Live a us ad) Released first second = absurd second
  typed_once formats level (Live s kids dict) (Live a us ad) (Live b vs bd) first second =
      λ i. Live (one_kind formats s.format a b first.0.format second.0.format i) (kids_once formats (level + 1) kids us vs first.1 second.1 i)
      (dict_once formats (level + 1) dict ad bd first.2 second.2 i)

  kids_once : FormatLaw → (level : ℕ) (kids : Trees SchemaMembers) (us vs : Trees DataType) → KidsTyped level kids us → KidsTyped level kids vs → us ≡ vs
  kids_once formats level no_trees no_trees no_trees first second = refl
  kids_once formats level no_trees (more_trees a us) vs first second = absurd first
  kids_once formats level no_trees no_trees (more_trees b vs) first second = absurd second
  kids_once formats level (more_trees kid kids) no_trees vs first second = absurd first
  kids_once formats level (more_trees kid kids) (more_trees a us) no_trees first second = absurd second
  kids_once formats level (more_trees kid kids) (more_trees a us) (more_trees b vs) first second =
      λ i. more_trees (typed_once formats level kid a b first.0 second.0 i) (kids_once formats level kids us vs first.1 second.1 i)

  dict_once : FormatLaw → (level : ℕ) (dict : MaybeTree SchemaMembers) (a b : MaybeTree DataType) → DictTyped level dict a → DictTyped level dict b → a ≡ b
  dict_once formats level absent absent absent first second = refl
  dict_once formats level absent (present a) b first second = absurd first
  dict_once formats level absent absent (present b) first second = absurd second
  dict_once formats level (present dict) absent b first second = absurd first
  dict_once formats level (present dict) (present a) absent first second = absurd second
  dict_once formats level (present dict) (present a) (present b) first second = λ i. present (typed_once formats level dict a b first second i)

-- ---- the places of two faults

abbrev SamePlace : Steps → SchemaRule → Steps → SchemaRule → Type 0
SamePlace p a q b = (p ≡ q) × (a ≡ b)

abbrev SameStep : ℕ → Steps → SchemaRule → ℕ → Steps → SchemaRule → Type 0
SameStep s p a t q b = (s ≡ t) × (p ≡ q) × (a ≡ b)

longer : (s : ℕ) (p : Steps) (a : SchemaRule) (t : ℕ) (q : Steps) (b : SchemaRule) → SameStep s p a t q b → SamePlace (s ∷ p) a (t ∷ q) b
longer s p a t q b h = ((λ i. h.0 i ∷ h.1 i), h.2)

behind : (s : ℕ) (p : Steps) (a : SchemaRule) (t : ℕ) (q : Steps) (b : SchemaRule) → s ≡ dictionary_step → t ≡ dictionary_step → SamePlace p a q b
    → SamePlace (s ∷ p) a (t ∷ q) b
behind s p a t q b se te h = ((λ i. (se ∙ sym te) i ∷ h.0 i), h.1)

one_rule-released : (level : ℕ) (a b : SchemaRule) → FailsHere level Released a → FailsHere level Released b → a ≡ b
one_rule-released level rules.Deep rules.Deep first second = refl
one_rule-released level rules.Deep rules.Released first second = absurd (omega (arith, first, second))
one_rule-released level rules.Released rules.Deep first second = absurd (omega (arith, first, second))
one_rule-released level rules.Released rules.Released first second = refl
one_rule-released level rules.Deep b first second = absurd second
one_rule-released level rules.Released b first second = absurd second
one_rule-released level a b first second = absurd first

-- ---- a reading of formats, and one of metadata
module _ (formats : FormatLaw) (metas : MetaLaw) where
  -- a rule fails only where those before it are met
  apart : (level : ℕ) (s : SchemaMembers) (kids : Trees SchemaMembers) (dict : MaybeTree SchemaMembers) (a b : SchemaRule) → rank a < rank b
      → FailsHere level (Live s kids dict) a → FailsHere level (Live s kids dict) b → ⊥
  unfolding rank
  apart level s kids dict rules.Deep b lt first second = omega (arith, first, on_level level s kids dict b second lt)
  apart level s kids dict rules.Released b lt first second = first
  apart level s kids dict (rules.Format (format.At rule place)) b lt first second =
      let k = formatted level s kids dict b second lt in
      no_kind formats s.format k.0 rule place k.1 first.1
  apart level s kids dict (rules.Format format.NoMemory) b lt first second = first
  apart level s kids dict (rules.Meta fault) b lt first second =
      no_pairs metas s.metadata fault (meta_refused level s kids dict fault first) (meta_fits level s kids dict b second lt)
  apart level s kids dict rules.ChildCount b lt first second =
      let k = children_fit level s kids dict b second lt in
      first.4 (subst (λ kind. ChildrenFit kind kids) (one_kind formats s.format k.0 first.1 k.1 first.2) k.2)
  apart level s kids dict rules.DictIndexType rules.MapShape lt first second =
      first.5 (subst (λ kind. IndexFits kind dict) (one_kind formats s.format second.1 first.1 second.2 first.2) second.5)
  apart level s kids dict rules.MapShape b lt first second = absurd (omega (arith, lt, rank_most b))
  apart level s kids dict a b lt first second = absurd (omega (arith, lt))

  level_with : (level : ℕ) (s : SchemaMembers) (kids : Trees SchemaMembers) (dict : MaybeTree SchemaMembers) (a b : SchemaRule)
      → rank a ≡ rank b
      → FailsHere level (Live s kids dict) a → FailsHere level (Live s kids dict) b → a ≡ b
  unfolding rank
  level_with level s kids dict rules.Deep rules.Deep e first second = refl
  level_with level s kids dict rules.Released b e first second = absurd first
  level_with level s kids dict (rules.Format (format.At a p)) (rules.Format (format.At b q)) e first second =
      ap rules.Format (one_format_fault formats s.format a p b q first.1 second.1)
  level_with level s kids dict (rules.Format format.NoMemory) b e first second = absurd first
  level_with level s kids dict (rules.Format (format.At a p)) (rules.Format format.NoMemory) e first second = absurd second
  level_with level s kids dict (rules.Meta a) (rules.Meta b) e first second =
      ap rules.Meta (one_meta_fault metas s.metadata a b (meta_refused level s kids dict a first) (meta_refused level s kids dict b second))
  level_with level s kids dict rules.ChildCount rules.ChildCount e first second = refl
  level_with level s kids dict rules.DictIndexType rules.DictIndexType e first second = refl
  level_with level s kids dict rules.MapShape rules.MapShape e first second = refl
  level_with level s kids dict a b e first second = absurd (omega (arith, e))

  one_rule-live : (level : ℕ) (s : SchemaMembers) (kids : Trees SchemaMembers) (dict : MaybeTree SchemaMembers) (a b : SchemaRule)
      → FailsHere level (Live s kids dict) a → FailsHere level (Live s kids dict) b → a ≡ b
  one_rule-live level s kids dict a b first second =
      elim (cases_lt (rank a) (rank b)) [
        | inl lt ↦ absurd (apart level s kids dict a b lt first second)
        | inr le ↦ elim (cases_lt (rank b) (rank a)) [
          | inl lt ↦ absurd (apart level s kids dict b a lt second first)
          | inr ge ↦ level_with level s kids dict a b (omega (arith, le, ge)) first second
        ]
      ]

  -- a node that meets each rule fails at none
  no_rule : (level : ℕ) (s : SchemaMembers) (kids : Trees SchemaMembers) (dict : MaybeTree SchemaMembers) (kind : DataType) (rule : SchemaRule)
      → NodeIs level s kids dict kind → FailsHere level (Live s kids dict) rule → ⊥
  no_rule level s kids dict kind rules.Deep node h = omega (arith, node.on_level, h)
  no_rule level s kids dict kind rules.Released node h = h
  no_rule level s kids dict kind (rules.Format (format.At rule place)) node h = no_kind formats s.format kind rule place node.format h.1
  no_rule level s kids dict kind (rules.Format format.NoMemory) node h = h
  no_rule level s kids dict kind (rules.Meta fault) node h = no_pairs metas s.metadata fault (meta_refused level s kids dict fault h) node.meta
  no_rule level s kids dict kind rules.ChildCount node h =
      h.4 (subst (λ k. ChildrenFit k kids) (one_kind formats s.format kind h.1 node.format h.2) node.children)
  no_rule level s kids dict kind rules.DictIndexType node h =
      h.5 (subst (λ k. IndexFits k dict) (one_kind formats s.format kind h.1 node.format h.2) node.index)
  no_rule level s kids dict kind rules.MapShape node h =
      h.6 (subst (λ k. MapFits k kids) (one_kind formats s.format kind h.1 node.format h.2) node.map)

  -- a tree of kinds, and a fault

  mutual
    typed_sound : (level : ℕ) (t : SchemaTree) (a : KindTree) (path : Steps) (rule : SchemaRule) → TypedFrom level t a
        → FaultFrom level t path rule → ⊥
    typed_sound level Released a path rule typed fails = typed
    typed_sound level (Live s kids dict) Released path rule typed fails = typed
    typed_sound level (Live s kids dict) (Live a us ad) [] rule typed fails = no_rule level s kids dict a rule typed.0 fails
    typed_sound level (Live s kids dict) (Live a us ad) (step ∷ path) rule typed fails =
        elim (fails.1) [
          | inl below ↦ kids_sound (level + 1) kids us 0 step path rule typed.1 below
          | inr below ↦ dict_sound (level + 1) dict ad path rule typed.2 below.2
        ]

    kids_sound : (level : ℕ) (kids : Trees SchemaMembers) (us : Trees DataType) (k step : ℕ) (path : Steps) (rule : SchemaRule)
        → KidsTyped level kids us → KidFault level kids k step path rule → ⊥
    kids_sound level no_trees us k step path rule typed fails = fails
    kids_sound level (more_trees kid kids) no_trees k step path rule typed fails = typed
    kids_sound level (more_trees kid kids) (more_trees a us) k step path rule typed fails =
        elim fails [
          | inl here ↦ typed_sound level kid a path rule typed.0 here.1
          | inr later ↦ kids_sound level kids us (suc k) step path rule typed.1 later.1
        ]

    dict_sound : (level : ℕ) (dict : MaybeTree SchemaMembers) (a : MaybeTree DataType) (path : Steps) (rule : SchemaRule)
        → DictTyped level dict a → DictFault level dict path rule → ⊥
    dict_sound level absent a path rule typed fails = fails
    dict_sound level (present dict) absent path rule typed fails = typed
    dict_sound level (present dict) (present a) path rule typed fails = typed_sound level dict a path rule typed fails

  -- two faults

  mutual
    fault_once : (level : ℕ) (t : SchemaTree) (p : Steps) (a : SchemaRule) (q : Steps) (b : SchemaRule)
        → FaultFrom level t p a → FaultFrom level t q b → SamePlace p a q b
    fault_once level Released [] a [] b first second = (refl, one_rule-released level a b first second)
    fault_once level Released (step ∷ p) a q b first second = absurd first
    fault_once level Released [] a (step ∷ q) b first second = absurd second
    fault_once level (Live s kids dict) [] a [] b first second = (refl, one_rule-live level s kids dict a b first second)
    fault_once level (Live s kids dict) [] a (step ∷ q) b first second =
        absurd (no_rule level s kids dict second.0.0 a second.0.1 first)
    fault_once level (Live s kids dict) (step ∷ p) a [] b first second =
        absurd (no_rule level s kids dict first.0.0 b first.0.1 second)
    fault_once level (Live s kids dict) (step ∷ p) a (other ∷ q) b first second =
        elim (first.1) [
          | inl f ↦ elim (second.1) [
            | inl g ↦ longer step p a other q b (kid_once (level + 1) kids 0 step p a other q b f g)
            | inr g ↦ absurd (kids_sound (level + 1) kids g.1.0 0 step p a g.1.1 f)
          ]
          | inr f ↦ elim (second.1) [
            | inl g ↦ absurd (kids_sound (level + 1) kids f.1.0 0 other q b f.1.1 g)
            | inr g ↦ behind step p a other q b f.0 g.0 (dict_fault_once (level + 1) dict p a q b f.2 g.2)
          ]
        ]

    kid_once : (level : ℕ) (kids : Trees SchemaMembers) (k s : ℕ) (p : Steps) (a : SchemaRule) (t : ℕ) (q : Steps) (b : SchemaRule)
        → KidFault level kids k s p a → KidFault level kids k t q b → SameStep s p a t q b
    kid_once level no_trees k s p a t q b first second = absurd first
    kid_once level (more_trees kid kids) k s p a t q b (inl first) (inl second) =
        let same = fault_once level kid p a q b first.1 second.1 in
        (first.0 ∙ sym second.0, same.0, same.1)
    kid_once level (more_trees kid kids) k s p a t q b (inl first) (inr second) =
        absurd (typed_sound level kid second.0.0 p a second.0.1 first.1)
    kid_once level (more_trees kid kids) k s p a t q b (inr first) (inl second) =
        absurd (typed_sound level kid first.0.0 q b first.0.1 second.1)
    kid_once level (more_trees kid kids) k s p a t q b (inr first) (inr second) =
        kid_once level kids (suc k) s p a t q b first.1 second.1

    dict_fault_once : (level : ℕ) (dict : MaybeTree SchemaMembers) (p : Steps) (a : SchemaRule) (q : Steps) (b : SchemaRule)
        → DictFault level dict p a → DictFault level dict q b → SamePlace p a q b
    dict_fault_once level absent p a q b first second = absurd first
    dict_fault_once level (present dict) p a q b first second = fault_once level dict p a q b first second

  -- the whole

  pub one_answer : (schema : SchemaTree) (first second : Result KindTree FirstFault) → SchemaReads schema first
      → SchemaReads schema second → first ≡ second
  one_answer schema (Ok a) (Ok b) first second = ap Ok (typed_once formats 1 schema a b first second)
  one_answer schema (Ok a) (Err g) first second = absurd (typed_sound 1 schema a g.path g.rule first second)
  one_answer schema (Err f) (Ok b) first second = absurd (typed_sound 1 schema b f.path f.rule second first)
  one_answer schema (Err f) (Err g) first second =
      let same = fault_once 1 schema f.path f.rule g.path g.rule first second in
      λ i. Err (record { path = same.0 i; rule = same.1 i })

abbrev pub AnswerLaw : Type 0
AnswerLaw = (schema : SchemaTree) (first second : Result KindTree FirstFault) → SchemaReads schema first → SchemaReads schema second → first ≡ second

pub gives : AnswerLaw → (schema : SchemaTree) (result : Result Typed SchemaFault)
    → IfOk result (λ typed. TypedOf schema (typed_of typed)) → IfErr result (IsFirstFault schema)
    → (read : Result KindTree FirstFault) → SchemaReads schema read → Gives result read
gives law schema (Ok typed) found fault read is = law schema read (Ok (typed_of typed)) is found
gives law schema (Err NoMemory) found fault read is = tt
gives law schema (Err (At path rule)) found fault read is = law schema read (Err (record { path = steps_of path; rule = rule })) is fault
