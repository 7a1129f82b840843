-- The first fault of a walk, part by part.
use Rattle.std.proofs.Common.{◌≡◌, ℕ, suc, ◌+◌, ◌<◌, ◌≤◌, pos, List, [], ◌∷◌, ◌++◌, length, map, Option, None, Some, refl, ap, ◌∙◌, sym, get_or, drop, arith}
use Rattle.std.proofs.lemmas.List.{drop_more, drop_all, length-map}
use Rattle.tree_model.proofs.Lists.{tree_list-trees}
use Rattle.data_types.specs.declared.typed.Typed.{Typed, out-Typed}
use Rattle.layout_rules.specs.declared.rule.LayoutRule.TheVariants as rules
use Rattle.data_types.specs.promise.TypedView.{typed_of}
use Rattle.data_types.specs.TypedView.{kids_of, kind_of, dict_in}
use Rattle.layout_rules.proofs.Walks.{fault_from-live, first_some-append}
use Rattle.layout_check.specs.NodeView.{live_node}
use Rattle.layout_rules.specs.promise.Layout.{layout_of, buffer_count}
use Rattle.layout_rules.specs.promise.Rules.{in_order, one_if, count_wrong, fault_if, is_negative}
use Rattle.layout_rules.specs.Rules.{form_rules, buffer_rules, item_rules}
use Rattle.data_types.proofs.Levels.{typed_out, levels-typed, kind-ok, kids-ok, dict-ok, get_or-typed}
use Rattle.std.specs.Global.{Box}
use Rattle.std.specs.Option.{option_or}
use Rattle.data_types.specs.declared.kind.DataType.{DataType}
use Rattle.tree_model.specs.promise.TreeData.{Tree, Live, Released, trees, maybe_tree, tree_list, option_tree}
use Rattle.tree_model.specs.promise.TreeParts.{IsLive, children_of, dictionary_of}
use Rattle.raw_array.specs.promise.Members.{ArrayTree, members_of}
use Rattle.data_types.specs.promise.KindTrees.{KindTree}
use Rattle.data_types.specs.promise.Ways.{Steps}
use Rattle.layout_rules.specs.promise.Walk.{Fault, visits, walks_of, walk_of, walk_children, walk_dictionary, walk_below, first_some}
use Rattle.layout_rules.specs.Walk.{fault_by, rules_fault, fault_from, own_fault, children_fault, dictionary_fault}
use Rattle.layout_rules.specs.promise.Walk.{visit_fault, fault_at}

-- a fault of the node itself is the first
pub fault_from-own : (kind : DataType) (kids : List KindTree) (dict : Option KindTree) (path : Steps) (array : ArrayTree) (fault : Fault)
    → own_fault (Live kind (trees kids) (maybe_tree dict)) path array ≡ Some fault
    → fault_from (Live kind (trees kids) (maybe_tree dict)) path array ≡ Some fault
fault_from-own kind kids dict path array fault e =
    ap (λ a. option_or a (first_some visit_fault (walk_below (walks_of (trees kids)) (walk_of (maybe_tree dict)) path array))) e

-- ---- over the code's kinds

option_tree-maybe_tree : {A : Type 0} → (d : Option (Tree A)) → option_tree (maybe_tree d) ≡ d
option_tree-maybe_tree None = refl
option_tree-maybe_tree (Some t) = refl

pub fault_from-typed : (t : Typed) (path : Steps) (array : ArrayTree) → IsLive array
    → fault_from (typed_of t) path array
    ≡ option_or (own_fault (typed_of t) path array)
    (option_or (children_fault (kids_of t) 0 path (children_of array)) (dictionary_fault (dict_in (out-Typed t).dict) path (dictionary_of array)))
fault_from-typed t path array live =
    let e = typed_out t in
    ap (λ k. fault_from k path array) e
    ∙ fault_from-live (kind_of t) (kids_of t) (dict_in (out-Typed t).dict) path array live
    ∙ ap (λ k. option_or (own_fault k path array)
    (option_or (children_fault (kids_of t) 0 path (children_of array)) (dictionary_fault (dict_in (out-Typed t).dict) path (dictionary_of array)))) (sym e)

pub fault_from-typed_own : (t : Typed) (path : Steps) (array : ArrayTree) (fault : Fault) → own_fault (typed_of t) path array ≡ Some fault
    → fault_from (typed_of t) path array ≡ Some fault
fault_from-typed_own t path array fault e =
    ap (λ k. fault_from k path array) (typed_out t)
    ∙ fault_from-own (kind_of t) (kids_of t) (dict_in (out-Typed t).dict) path array fault (ap (λ k. own_fault k path array) (sym (typed_out t)) ∙ e)

-- a live node's own fault is that of its rules
pub own_fault-node : (t : Typed) (path : Steps) (array : ArrayTree) → IsLive array
    → own_fault (typed_of t) path array ≡ rules_fault in_order path (live_node t array)
own_fault-node t path Released live = absurd live
own_fault-node t path (Live own children dictionary) live =
    ap (λ k. own_fault k path (Live own children dictionary)) (typed_out t)
    ∙ ap (λ kids. rules_fault in_order path (record {
      kind = kind_of t;
      kids = kids;
      dict = option_tree (maybe_tree (dict_in (out-Typed t).dict));
      own = own;
      children = tree_list children;
      dictionary = option_tree dictionary;
    })) (tree_list-trees (kids_of t))
    ∙ ap (λ dict. rules_fault in_order path (record {
      kind = kind_of t;
      kids = kids_of t;
      dict = dict;
      own = own;
      children = tree_list children;
      dictionary = option_tree dictionary;
    })) (option_tree-maybe_tree (dict_in (out-Typed t).dict))

-- the rules of its form, then those of its buffers, then those of its items
pub own_fault-typed : (t : Typed) (path : Steps) (array : ArrayTree) → IsLive array
    → own_fault (typed_of t) path array
    ≡ option_or (rules_fault form_rules path (live_node t array))
    (option_or (rules_fault buffer_rules path (live_node t array)) (rules_fault item_rules path (live_node t array)))
own_fault-typed t path array live =
    own_fault-node t path array live
    ∙ first_some-append (fault_by path (live_node t array)) form_rules (buffer_rules ++ item_rules)
    ∙ ap (option_or (rules_fault form_rules path (live_node t array))) (first_some-append (fault_by path (live_node t array)) buffer_rules item_rules)

one_if-dict : (d : Option (Box Typed)) → one_if (dict_in d) ≡ one_if d
one_if-dict None = refl
one_if-dict (Some b) = refl

pub form_fault : (t : Typed) (path : Steps) (array : ArrayTree)
    → rules_fault form_rules path (live_node t array)
    ≡ option_or (fault_at path rules.NegativeLength (fault_if (is_negative (members_of array).length) 0 (members_of array).length (pos 0)))
    (option_or (fault_at path rules.NegativeOffset (fault_if (is_negative (members_of array).offset) 0 (members_of array).offset (pos 0)))
    (option_or (fault_at path rules.BufferCount
    (count_wrong (length (members_of array).buffers) (buffer_count (layout_of (out-Typed t).kind) (length (members_of array).buffers))))
    (option_or (fault_at path rules.ChildCount (count_wrong (length (children_of array)) (length (out-Typed t).kids.items)))
    (option_or (fault_at path rules.Dictionary (count_wrong (one_if (dictionary_of array)) (one_if (out-Typed t).dict))) None))))
form_fault t path array =
    ap (λ n. by n (one_if (dict_in (out-Typed t).dict))) (length-map (out-Typed t).kids.items typed_of)
    ∙ ap (λ n. by (length (out-Typed t).kids.items) n) (one_if-dict (out-Typed t).dict)
  where
    by : ℕ → ℕ → Option Fault
    by kids dict =
        option_or (fault_at path rules.NegativeLength (fault_if (is_negative (members_of array).length) 0 (members_of array).length (pos 0)))
        (option_or (fault_at path rules.NegativeOffset (fault_if (is_negative (members_of array).offset) 0 (members_of array).offset (pos 0)))
        (option_or (fault_at path rules.BufferCount
        (count_wrong (length (members_of array).buffers) (buffer_count (layout_of (out-Typed t).kind) (length (members_of array).buffers))))
        (option_or (fault_at path rules.ChildCount (count_wrong (length (children_of array)) kids))
        (option_or (fault_at path rules.Dictionary (count_wrong (one_if (dictionary_of array)) dict)) None))))

-- ---- the children, one by one

pub children_fault-step : (kids : List Typed) (i : ℕ) (d : Typed) (path : Steps) (children : List ArrayTree) → i < length kids → length children ≡ length kids
    → children_fault (drop i (map typed_of kids)) i path (drop i children)
    ≡ option_or (fault_from (typed_of (get_or kids i d)) (path ++ i ∷ []) (get_or children i Released))
    (children_fault (drop (i + 1) (map typed_of kids)) (i + 1) path (drop (i + 1) children))
children_fault-step kids i d path children h same =
    ap (λ ks. children_fault ks i path (drop i children)) (drop_more (map typed_of kids) i Released (omega (arith, length-map kids typed_of))
    ∙ ap (λ k. k ∷ drop (i + 1) (map typed_of kids)) (get_or-typed kids i d h))
    ∙ ap (children_fault (typed_of (get_or kids i d) ∷ drop (i + 1) (map typed_of kids)) i path) (drop_more children i Released (omega arith))
    ∙ ap (λ n. option_or (fault_from (typed_of (get_or kids i d)) (path ++ i ∷ []) (get_or children i Released))
    (children_fault (drop (i + 1) (map typed_of kids)) n path (drop (i + 1) children))) (omega arith)

pub children_fault-end : (kids : List Typed) (i : ℕ) (path : Steps) (children : List ArrayTree) → length kids ≤ i
    → children_fault (drop i (map typed_of kids)) i path (drop i children) ≡ None
children_fault-end kids i path children h =
    ap (λ ks. children_fault ks i path (drop i children)) (drop_all i (map typed_of kids) (omega (arith, length-map kids typed_of)))

pub ruleset walks = (levels-typed, kind-ok, kids-ok, dict-ok, fault_from-typed, fault_from-typed_own)

pub ruleset own_rules = (own_fault-typed)

pub ruleset form = (form_fault)
