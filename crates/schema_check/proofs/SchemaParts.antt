-- The answers of a schema's node, made of those of its parts.
use Rattle.std.proofs.Common.{◌≡◌, ℕ, zero, suc, ◌+◌, ◌<◌, List, [], ◌∷◌, ◌++◌, length, get_or, take, map, Option, None, Some, refl, sym, ap, subst, ◌∙◌}
use Rattle.std.proofs.Common.{append_assoc, inl, inr, arith}
use Rattle.std.proofs.lemmas.List.{append-nil, map-append, take_more}
use Rattle.std.specs.Global.{Box}
use Rattle.data_types.specs.declared.kind.DataType.{DataType}
use Rattle.tree_model.specs.promise.TreeData.{Released, Live, Trees, trees, maybe_tree}
use Rattle.tree_model.specs.promise.TreeParts.{IsLive, children_of, dictionary_of}
use Rattle.tree_model.proofs.Lists.{trees-tree_list}
use Rattle.raw_schema.specs.promise.Members.{SchemaTree, members_of}
use Rattle.schema_check.specs.declared.rule.SchemaRule.{SchemaRule}
use Rattle.schema_check.specs.declared.schema.SchemaFault.{SchemaFault}
use Rattle.schema_check.specs.declared.schema.SchemaFault.TheVariants.{At, NoMemory}
use Rattle.data_types.specs.declared.typed.Typed.{Typed}
use Rattle.data_types.specs.declared.typed.Typed.TheOpen.{Typed-F}
use Rattle.data_types.specs.declared.typed.Typed.TheViews.{roll-Typed}
use Rattle.data_types.specs.declared.typed.Typed.TheFolds.{map-Typed, fold-roll-Typed}
use Rattle.data_types.specs.promise.KindTrees.{KindTree}
use Rattle.data_types.specs.promise.TypedView.{typed_of, dict_of}
use Rattle.data_types.specs.TypedView.{layer, dict_in}
use Rattle.data_types.specs.promise.Ways.{Steps, dictionary_step}
use Rattle.schema_check.specs.promise.Schemas.{KidsTyped, DictTyped, TypedFrom, FaultFrom, KidFault}
use Rattle.schema_check.specs.SchemaAnswers.{NodeOf, FaultHere, FaultBelow, FaultInKids, FaultInDict}
use Rattle.schema_check.proofs.SchemaFails.{same_dictionary}

live_is : (t : SchemaTree) → IsLive t → t ≡ Live (members_of t) (trees (children_of t)) (maybe_tree (dictionary_of t))
live_is Released live = absurd live
live_is (Live s kids dict) live = λ i. Live s (sym (trees-tree_list kids) i) (sym (same_dictionary dict) i)

-- ---- a node

rolled_dict : (x : Typed-F Typed) (d : Option (Box Typed)) → x.dict ≡ d → dict_of (map-Typed Typed KindTree typed_of x).dict ≡ dict_in d
rolled_dict x None e = rw e refl
rolled_dict x (Some b) e = rw e refl

typed_rolled : (x : Typed-F Typed) → typed_of (roll-Typed x) ≡ Live x.kind (trees (map typed_of x.kids.items)) (maybe_tree (dict_in x.dict))
typed_rolled x =
    fold-roll-Typed KindTree layer x
    ∙ ap (λ (d : Option KindTree). Live x.kind (trees (map typed_of x.kids.items)) (maybe_tree d)) (rolled_dict x x.dict refl)

pub typed-node : (level : ℕ) (t : SchemaTree) (x : Typed-F Typed) → IsLive t → NodeOf level t x.kind
    → KidsTyped (level + 1) (trees (children_of t)) (trees (map typed_of x.kids.items))
    → DictTyped (level + 1) (maybe_tree (dictionary_of t)) (maybe_tree (dict_in x.dict))
    → TypedFrom level t (typed_of (roll-Typed x))
typed-node level t x live node kids dict =
    subst (λ k. TypedFrom level t k) (sym (typed_rolled x))
    (subst (λ u. TypedFrom level u (Live x.kind (trees (map typed_of x.kids.items)) (maybe_tree (dict_in x.dict)))) (sym (live_is t live)) (node, kids, dict))

pub fault-here : (level : ℕ) (t : SchemaTree) (way : Steps) (f : SchemaFault) → FaultHere level t way f → FaultBelow level t way f
fault-here level t way NoMemory h = tt
fault-here level Released way (At path rule) h = ([], h.0 ∙ sym (append-nil way), h.1)
fault-here level (Live s kids dict) way (At path rule) h = ([], h.0 ∙ sym (append-nil way), h.1)

pub fault-kids : (level : ℕ) (t : SchemaTree) (kind : DataType) (way : Steps) (f : SchemaFault) → IsLive t → NodeOf level t kind
    → FaultInKids (level + 1) (children_of t) way f → FaultBelow level t way f
fault-kids level t kind way NoMemory live node h = tt
fault-kids level t kind way (At path rule) live node h =
    (h.0 ∷ h.1, h.2, subst (λ u. FaultFrom level u (h.0 ∷ h.1) rule) (sym (live_is t live)) ((kind, node), inl h.3))

pub fault-dictionary : (level : ℕ) (t : SchemaTree) (kind : DataType) (typed : Trees DataType) (way : Steps) (f : SchemaFault) → IsLive t → NodeOf level t kind
    → KidsTyped (level + 1) (trees (children_of t)) typed → FaultInDict (level + 1) (dictionary_of t) way f → FaultBelow level t way f
fault-dictionary level t kind typed way NoMemory live node kids h = tt
fault-dictionary level t kind typed way (At path rule) live node kids h = (
  dictionary_step ∷ h.0,
  h.1,
  subst (λ u. FaultFrom level u (dictionary_step ∷ h.0) rule) (sym (live_is t live)) ((kind, node), inr (refl, (typed, kids), h.2)),
)

pub ruleset parts = (typed-node, fault-here, fault-kids, fault-dictionary)

-- ---- its children

pub kids-more : (level : ℕ) (xs : List SchemaTree) (x : SchemaTree) (ts : List KindTree) (t : KindTree)
    → KidsTyped level (trees xs) (trees ts) → TypedFrom level x t → KidsTyped level (trees (xs ++ x ∷ [])) (trees (ts ++ t ∷ []))
kids-more level [] x [] t kids kid = (kid, tt)
kids-more level [] x (u ∷ ts) t kids kid = absurd kids
kids-more level (y ∷ xs) x [] t kids kid = absurd kids
kids-more level (y ∷ xs) x (u ∷ ts) t kids kid = (kids.0, kids-more level xs x ts t kids.1 kid)

kid-fault : (level : ℕ) (xs : List SchemaTree) (i k : ℕ) (ts : List KindTree) (below : Steps) (rule : SchemaRule) → i < length xs
    → KidsTyped level (trees (take i xs)) (trees ts) → FaultFrom level (get_or xs i Released) below rule → KidFault level (trees xs) k (k + i) below rule
kid-fault level [] i k ts below rule h typed fails = absurd (omega (arith, h))
kid-fault level (x ∷ xs) zero k ts below rule h typed fails = let e : k + 0 ≡ k = omega arith in inl (e, fails)
kid-fault level (x ∷ xs) (suc i) k [] below rule h typed fails = absurd typed
kid-fault level (x ∷ xs) (suc i) k (t ∷ ts) below rule h typed fails =
    let e : suc k + i ≡ k + suc i = omega arith in
    inr (
      (t, typed.0),
      subst (λ s. KidFault level (trees xs) (suc k) s below rule) e
          (kid-fault level xs i (suc k) ts below rule (omega (arith, h)) typed.1 fails),
    )

pub fault-kid : (level : ℕ) (xs : List SchemaTree) (i : ℕ) (ts : List KindTree) (way : Steps) (f : SchemaFault) → i < length xs
    → KidsTyped level (trees (take i xs)) (trees ts) → FaultBelow level (get_or xs i Released) (way ++ i ∷ []) f → FaultInKids level xs way f
fault-kid level xs i ts way NoMemory inside typed h = tt
fault-kid level xs i ts way (At path rule) inside typed h =
    let e : 0 + i ≡ i = omega arith in
    (i, h.0, h.1 ∙ append_assoc way (i ∷ []) h.0, subst (λ s. KidFault level (trees xs) 0 s h.0 rule) e (kid-fault level xs i 0 ts h.0 rule inside typed h.2))

pub fault-of_dictionary : (level : ℕ) (d : SchemaTree) (way : Steps) (f : SchemaFault) → FaultBelow level d (way ++ dictionary_step ∷ []) f
    → FaultInDict level (Some d) way f
fault-of_dictionary level d way NoMemory h = tt
fault-of_dictionary level d way (At path rule) h = (h.0, h.1 ∙ append_assoc way (dictionary_step ∷ []) h.0, h.2)

-- ---- the same, by other names

pub fault-renamed : (k level : ℕ) (u t : SchemaTree) (v way : Steps) (f : SchemaFault) → k ≡ level → u ≡ t → v ≡ way → FaultBelow k u v f
    → FaultBelow level t way f
fault-renamed k level u t v way f ke ue ve h =
    subst (λ x. FaultBelow level t x f) ve (subst (λ x. FaultBelow level x v f) ue (subst (λ x. FaultBelow x u v f) ke h))

kid-renamed : (k level : ℕ) (u t : SchemaTree) (a : KindTree) → k ≡ level → u ≡ t → TypedFrom k u a → TypedFrom level t a
kid-renamed k level u t a ke ue h = subst (λ x. TypedFrom level x a) ue (subst (λ x. TypedFrom x u a) ke h)

pub kids-step : (k level : ℕ) (xs : List SchemaTree) (i : ℕ) (kid : SchemaTree) (items more : List Typed) (x : Typed) → i < length xs
    → KidsTyped level (trees (take i xs)) (trees (map typed_of items)) → k ≡ level → kid ≡ get_or xs i Released → TypedFrom k kid (typed_of x)
    → more ≡ items ++ x ∷ [] → KidsTyped level (trees (take (i + 1) xs)) (trees (map typed_of more))
kids-step k level xs i kid items more x inside typed ke is here grown =
    let names : map typed_of items ++ typed_of x ∷ [] ≡ map typed_of more = sym (ap (map typed_of) grown ∙ map-append typed_of items (x ∷ [])) in
    subst (λ ys. KidsTyped level (trees ys) (trees (map typed_of more))) (sym (take_more xs i Released inside))
    (subst (λ us. KidsTyped level (trees (take i xs ++ get_or xs i Released ∷ [])) (trees us)) names
    (kids-more level (take i xs) (get_or xs i Released) (map typed_of items) (typed_of x) typed
    (kid-renamed k level kid (get_or xs i Released) (typed_of x) ke is here)))
