-- The rules that fail at a live node of a schema, and the words of the code's tests.
use Rattle.std.proofs.Common.{rules, ◌≡◌, ℕ, ◌≤◌, List, [], ◌∷◌, length, get_or, Option, None, Some, refl, sym, ap, subst, ◌∙◌, arith}
use Rattle.std.specs.Prelude.{codes, Bool, true, false, IsTrue}
use Rattle.data_types.specs.declared.kind.DataType.{DataType}
use Rattle.fmt_string.specs.declared.fault.FormatRule.{FormatRule}
use Rattle.fmt_string.specs.declared.fault.FormatFault.TheVariants as format
use Rattle.fmt_string.specs.promise.FormatString.{FormatIs, FormatFaultIs}
use Rattle.schema_meta.specs.declared.fault.MetaFault.{MetaFault}
use Rattle.schema_meta.specs.declared.fault.MetaFault.TheVariants as meta
use Rattle.schema_meta.specs.promise.Meta.{MetaFaultIs}
use Rattle.tree_model.specs.promise.TreeData.{Tree, Released, Live, Trees, trees, MaybeTree, maybe_tree, absent, present, tree_list}
use Rattle.tree_model.specs.promise.TreeParts.{IsLive, children_of, dictionary_of}
use Rattle.tree_model.specs.promise.TreeData.{option_tree}
use Rattle.tree_model.proofs.Lists.{trees-tree_list}
use Rattle.raw_schema.specs.promise.Members.{SchemaMembers, SchemaTree, members_of}
use Rattle.schema_check.specs.declared.rule.SchemaRule.{SchemaRule}
use Rattle.schema_check.specs.declared.rule.SchemaRule.TheVariants as rules
use Rattle.data_types.specs.promise.KindTrees.{tree_count}
use Rattle.schema_check.specs.promise.Schemas.{MetaFits, ChildrenFit, IndexFits, IsPairNode, IsPairSchema, MapFits, FailsHere}
use Rattle.schema_check.specs.promise.SchemaAnswers.{MetaRefused}

-- a list of trees has as many of them as the list
pub tree_count-trees : {A : Type 0} → (ts : List (Tree A)) → tree_count (trees ts) ≡ length ts
tree_count-trees [] = refl
tree_count-trees (t ∷ ts) = omega (arith, tree_count-trees ts)

pub same_dictionary : (d : MaybeTree SchemaMembers) → maybe_tree (option_tree d) ≡ d
same_dictionary absent = refl
same_dictionary (present t) = refl

-- ---- the rules

pub fails-deep : (level : ℕ) (t : SchemaTree) → 65 ≤ level → FailsHere level t rules.Deep
fails-deep level Released h = omega (arith, h)
fails-deep level (Live s kids dict) h = omega (arith, h)

pub fails-released : (level : ℕ) (t : SchemaTree) → level ≤ 64 → t ≡ Released → FailsHere level t rules.Released
fails-released level t low e = subst (λ u. FailsHere level u rules.Released) (sym e) low

refused : (m : Option (List ℕ)) (fault : MetaFault) → MetaRefused m fault → (bytes : List ℕ) × (m ≡ Some bytes) × MetaFaultIs bytes fault
refused None fault h = absurd h
refused (Some bytes) fault h = (bytes, refl, h)

fails-meta_live : (level : ℕ) (s : SchemaMembers) (kids : Trees SchemaMembers) (dict : MaybeTree SchemaMembers) (kind : DataType) (fault : MetaFault)
    → level ≤ 64
    → FormatIs s.format kind → ((bytes : List ℕ) × (s.metadata ≡ Some bytes) × MetaFaultIs bytes fault) → FailsHere level (Live s kids dict) (rules.Meta fault)
fails-meta_live level s kids dict kind meta.NoMemory low is b = absurd b.2
fails-meta_live level s kids dict kind (meta.Short p) low is b = (low, kind, is, b.0, b.1, b.2)
fails-meta_live level s kids dict kind (meta.Negative p) low is b = (low, kind, is, b.0, b.1, b.2)
fails-meta_live level s kids dict kind (meta.Trailing p) low is b = (low, kind, is, b.0, b.1, b.2)

-- a live node, put together again from its parts
as_live : (t : SchemaTree) → IsLive t → Live (members_of t) (trees (children_of t)) (maybe_tree (dictionary_of t)) ≡ t
as_live Released live = absurd live
as_live (Live s kids dict) live = λ i. Live s (trees-tree_list kids i) (same_dictionary dict i)

module _ (level : ℕ) (t : SchemaTree) (live : IsLive t) (low : level ≤ 64) where
  at_live : (rule : SchemaRule) → FailsHere level (Live (members_of t) (trees (children_of t)) (maybe_tree (dictionary_of t))) rule → FailsHere level t rule
  at_live rule h = subst (λ u. FailsHere level u rule) (as_live t live) h

  pub fails-format : (rule : FormatRule) (place : ℕ) → FormatFaultIs (members_of t).format rule place → FailsHere level t (rules.Format (format.At rule place))
  fails-format rule place h = at_live (rules.Format (format.At rule place)) (low, h)

  module _ (kind : DataType) (is : FormatIs (members_of t).format kind) where
    pub fails-meta : (fault : MetaFault) → MetaRefused (members_of t).metadata fault → FailsHere level t (rules.Meta fault)
    fails-meta fault h = at_live (rules.Meta fault)
        (fails-meta_live level (members_of t) (trees (children_of t)) (maybe_tree (dictionary_of t)) kind fault low is
        (refused (members_of t).metadata fault h))

    module _ (fits : MetaFits (members_of t).metadata) where
      pub fails-children : (ChildrenFit kind (trees (children_of t)) → ⊥) → FailsHere level t rules.ChildCount
      fails-children unmet = at_live rules.ChildCount (low, kind, is, fits, unmet)

      pub fails-index : ChildrenFit kind (trees (children_of t)) → (IndexFits kind (maybe_tree (dictionary_of t)) → ⊥) → FailsHere level t rules.DictIndexType
      fails-index some unmet = at_live rules.DictIndexType (low, kind, is, fits, some, unmet)

      pub fails-map : ChildrenFit kind (trees (children_of t)) → IndexFits kind (maybe_tree (dictionary_of t)) → (MapFits kind (trees (children_of t)) → ⊥)
          → FailsHere level t rules.MapShape
      fails-map some index unmet = at_live rules.MapShape (low, kind, is, fits, some, index, unmet)

pub ruleset fails = (fails-deep, fails-released, fails-format, fails-meta, fails-children, fails-index, fails-map)

-- ---- the words of the code's tests

pub refuted : (b : Bool) (P : Type 0) → b ≡ false → (P → IsTrue b) → P → ⊥
refuted b P e back p = let h : IsTrue b = back p in search rules

pub granted : (b : Bool) (P : Type 0) → b ≡ true → (IsTrue b → P) → P
granted b P e go = let h : IsTrue b = search rules in go h

pub first_pair : (xs : List SchemaTree) → tree_count (trees xs) ≡ 1 → IsPairNode (get_or xs 0 Released) → IsPairSchema (trees xs)
first_pair [] one h = absurd (omega (arith, one))
first_pair (x ∷ xs) one h = h

pub pair_first : (xs : List SchemaTree) → tree_count (trees xs) ≡ 1 → IsPairSchema (trees xs) → IsPairNode (get_or xs 0 Released)
pair_first [] one h = absurd (omega (arith, one))
pair_first (x ∷ xs) one h = h

listed : (kids : Trees SchemaMembers) → length (tree_list kids) ≡ tree_count kids
listed kids = sym (tree_count-trees (tree_list kids)) ∙ ap tree_count (trees-tree_list kids)

pub pair_is : (t : SchemaTree) → IsLive t → (members_of t).format ≡ codes "+s" → length (children_of t) ≡ 2 → IsPairNode t
pair_is Released live text two = absurd live
pair_is (Live s kids dict) live text two = (text, sym (listed kids) ∙ two)

pub pair_text : (t : SchemaTree) → IsPairNode t → (members_of t).format ≡ codes "+s"
pair_text Released h = absurd h
pair_text (Live s kids dict) h = h.0

pub pair_two : (t : SchemaTree) → IsPairNode t → length (children_of t) ≡ 2
pair_two Released h = absurd h
pair_two (Live s kids dict) h = listed kids ∙ h.1

pub ruleset counts = (tree_count-trees, first_pair, pair_first, pair_is, pair_text, pair_two)
