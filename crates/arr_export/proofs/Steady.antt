-- Whether a tree passes does not depend on the steps that lead to it.
use Rattle.std.proofs.Common.{◌≡◌, ℕ, suc, List, [], ◌∷◌, ◌++◌, refl, Option, None, Some}
use Rattle.tree_model.specs.promise.TreeData.{Released, Live, Trees, no_trees, more_trees, MaybeTree, absent, present, tree_list, option_tree}
use Rattle.raw_array.specs.promise.Members.{ArrayTree}
use Rattle.data_types.specs.declared.kind.DataType.{DataType}
use Rattle.data_types.specs.promise.KindTrees.{KindTree}
use Rattle.layout_rules.specs.promise.Rules.{Node, fails, in_order}
use Rattle.data_types.specs.promise.Ways.{Steps, dictionary_step}
use Rattle.layout_rules.specs.promise.Walk.{Walk, fault_at, first_some, node_fault, node_of, visit_fault, visits, walk_below}
use Rattle.layout_rules.specs.Walk.{fault_by}
use Rattle.layout_rules.specs.promise.Walk.{walk_children, walk_dictionary, walk_of, walks_of}
use Rattle.layout_rules.specs.declared.rule.LayoutRule.{LayoutRule}
use Rattle.layout_rules.specs.declared.rule.Numbers.{Numbers}
use Rattle.layout_rules.proofs.Lawful.{left-none, right-none}
use Rattle.arr_export.proofs.NodeRules.{both-none}

-- ---- the rules of a node
pub first_some-append : {X Y : Type 0} → (f : X → Option Y) (xs ys : List X) → first_some f xs ≡ None → first_some f ys ≡ None → first_some f (xs ++ ys) ≡ None
first_some-append f [] ys e g = g
first_some-append f (x ∷ xs) ys e g =
    let head = left-none (f x) (first_some f xs) e in
    both-none (f x) (first_some f (xs ++ ys)) head (first_some-append f xs ys (right-none (f x) (first_some f xs) head e) g)

first_some-parts : {X Y : Type 0} → (f : X → Option Y) (xs ys : List X) → first_some f (xs ++ ys) ≡ None → (first_some f xs ≡ None) × (first_some f ys ≡ None)
first_some-parts f [] ys e = (refl, e)
first_some-parts f (x ∷ xs) ys e =
    let head = left-none (f x) (first_some f (xs ++ ys)) e in
    let rest = first_some-parts f xs ys (right-none (f x) (first_some f (xs ++ ys)) head e) in
    (both-none (f x) (first_some f xs) head rest.0, rest.1)

rule-steady : (p q : Steps) (rule : LayoutRule) (found : Option Numbers) → fault_at p rule found ≡ None → fault_at q rule found ≡ None
rule-steady p q rule None e = refl
rule-steady p q rule (Some numbers) e = cc

rules-steady : (p q : Steps) (n : Node) (some : List LayoutRule) → first_some (fault_by p n) some ≡ None → first_some (fault_by q n) some ≡ None
rules-steady p q n [] e = refl
rules-steady p q n (rule ∷ others) e =
    let head = left-none (fault_by p n rule) (first_some (fault_by p n) others) e in
    both-none (fault_by q n rule) (first_some (fault_by q n) others) (rule-steady p q rule (fails rule n) head)
    (rules-steady p q n others (right-none (fault_by p n rule) (first_some (fault_by p n) others) head e))

node-steady : (p q : Steps) (n : Option Node) → node_fault p n ≡ None → node_fault q n ≡ None
node-steady p q None e = cc
node-steady p q (Some n) e = rules-steady p q n in_order e

-- ---- walks over trees
abbrev pub Steady : Walk → Type 0
Steady walk = (p q : Steps) (array : ArrayTree) → first_some visit_fault (walk p array) ≡ None → first_some visit_fault (walk q array) ≡ None

abbrev AllSteady : List Walk → Type 0
AllSteady [] = Unit {0}
AllSteady (walk ∷ walks) = Steady walk × AllSteady walks

abbrev SteadyIf : Option Walk → Type 0
SteadyIf None = Unit {0}
SteadyIf (Some walk) = Steady walk

children-steady : (walks : List Walk) → AllSteady walks → (k : ℕ) (p q : Steps) (children : List ArrayTree)
    → first_some visit_fault (walk_children walks k p children) ≡ None → first_some visit_fault (walk_children walks k q children) ≡ None
children-steady [] all k p q children e = refl
children-steady (walk ∷ walks) all k p q [] e = refl
children-steady (walk ∷ walks) all k p q (child ∷ rest) e =
    let parts = first_some-parts visit_fault (walk (p ++ k ∷ []) child) (walk_children walks (suc k) p rest) e in
    first_some-append visit_fault (walk (q ++ k ∷ []) child) (walk_children walks (suc k) q rest) (all.0 (p ++ k ∷ []) (q ++ k ∷ []) child parts.0)
    (children-steady walks all.1 (suc k) p q rest parts.1)

dictionary-steady : (walk : Option Walk) → SteadyIf walk → (p q : Steps) (dictionary : Option ArrayTree)
    → first_some visit_fault (walk_dictionary walk p dictionary) ≡ None → first_some visit_fault (walk_dictionary walk q dictionary) ≡ None
dictionary-steady None steady p q dictionary e = refl
dictionary-steady (Some walk) steady p q None e = refl
dictionary-steady (Some walk) steady p q (Some dictionary) e = steady (p ++ dictionary_step ∷ []) (q ++ dictionary_step ∷ []) dictionary e

below-steady : (walks : List Walk) (walk : Option Walk) → AllSteady walks → SteadyIf walk → Steady (walk_below walks walk)
below-steady walks walk all steady p q Released e = refl
below-steady walks walk all steady p q (Live own children dictionary) e =
    let parts = first_some-parts visit_fault (walk_children walks 0 p (tree_list children)) (walk_dictionary walk p (option_tree dictionary)) e in
    first_some-append visit_fault (walk_children walks 0 q (tree_list children)) (walk_dictionary walk q (option_tree dictionary))
    (children-steady walks all 0 p q (tree_list children) parts.0) (dictionary-steady walk steady p q (option_tree dictionary) parts.1)

live-steady : (kind : DataType) (kids : Trees DataType) (dict : MaybeTree DataType) → AllSteady (walks_of kids) → SteadyIf (walk_of dict)
    → Steady (visits (Live kind kids dict))
live-steady kind kids dict all steady p q array e =
    let head = left-none (node_fault p (node_of kind kids dict array)) (first_some visit_fault (walk_below (walks_of kids) (walk_of dict) p array)) e in
    let rest = right-none (node_fault p (node_of kind kids dict array)) (first_some visit_fault (walk_below (walks_of kids) (walk_of dict) p array)) head e in
    both-none (node_fault q (node_of kind kids dict array)) (first_some visit_fault (walk_below (walks_of kids) (walk_of dict) q array))
    (node-steady p q (node_of kind kids dict array) head) (below-steady (walks_of kids) (walk_of dict) all steady p q array rest)

mutual
  pub steady : (type : KindTree) → Steady (visits type)
  steady Released = λ p q array e. refl
  steady (Live kind kids dict) = live-steady kind kids dict (all-steady kids) (steady-if dict)

  all-steady : (kids : Trees DataType) → AllSteady (walks_of kids)
  all-steady no_trees = tt
  all-steady (more_trees kid kids) = (steady kid, all-steady kids)

  steady-if : (dict : MaybeTree DataType) → SteadyIf (walk_of dict)
  steady-if absent = tt
  steady-if (present dict) = steady dict
