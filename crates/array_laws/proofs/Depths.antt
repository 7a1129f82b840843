-- A lawful array is no deeper than its type.
use Rattle.std.proofs.Common.{◌≡◌, ℕ, suc, ◌≤◌, [], ◌∷◌, ◌++◌, length, None, Some, ◌∙◌, Option, sym, List, arith}
use Rattle.data_types.specs.declared.kind.DataType.{DataType}
use Rattle.tree_model.specs.promise.TreeData.{Released, Live, Trees, no_trees, more_trees, MaybeTree, absent, present, tree_list, option_tree}
use Rattle.tree_model.specs.Tree.{Depth, depth_of_all, depth_of_maybe}
use Rattle.raw_array.specs.promise.Members.{ArrayMembers, ArrayTree}
use Rattle.data_types.specs.promise.KindTrees.{KindTree}
use Rattle.data_types.specs.KindTrees.{AllNodesOk, DictNodesOk, NodesOk}
use Rattle.layout_rules.specs.promise.Rules.{count_wrong, one_if}
use Rattle.data_types.specs.promise.Ways.{Steps, dictionary_step}
use Rattle.layout_rules.specs.promise.Walk.{LayoutOk, first_some, node_fault, visit_fault, visits, walk_below, walk_children}
use Rattle.layout_rules.specs.Walk.{fault_from}
use Rattle.layout_rules.specs.promise.Walk.{walk_dictionary, walk_of, walks_of}
use Rattle.layout_rules.proofs.Lawful.{lawful-first_fault, left-none, right-none}
use Rattle.layout_rules.proofs.Walks.{first_some-append}
use Rattle.layout_rules.specs.declared.rule.LayoutRule.TheVariants as rules
use Rattle.layout_rules.proofs.NamedRules.{are-met}
use Rattle.array_laws.proofs.LawfulNodes.{node}

append-left : {X Y : Type 0} → (f : X → Option Y) (xs ys : List X) → first_some f (xs ++ ys) ≡ None → first_some f xs ≡ None
append-left f xs ys e = left-none (first_some f xs) (first_some f ys) (sym (first_some-append f xs ys) ∙ e)

append-right : {X Y : Type 0} → (f : X → Option Y) (xs ys : List X) → first_some f (xs ++ ys) ≡ None → first_some f ys ≡ None
append-right f xs ys e = right-none (first_some f xs) (first_some f ys) (append-left f xs ys e) (sym (first_some-append f xs ys) ∙ e)

counted : (found needed : ℕ) → count_wrong found needed ≡ None → found ≡ needed
counted found needed e = grind arith

mutual
  depth-at : (typed : KindTree) → NodesOk typed → (path : Steps) (t : ArrayTree) → fault_from typed path t ≡ None → Depth t ≤ Depth typed
  depth-at Released ok path t e = absurd ok
  depth-at (Live kind kids dict) ok path Released e = omega arith
  depth-at (Live kind kids dict) ok path (Live m ts d) e =
      let here =
      left-none (node_fault path (Some (node kind kids dict m ts d)))
      (first_some visit_fault (walk_below (walks_of kids) (walk_of dict) path (Live m ts d))) e in
      let below =
      right-none (node_fault path (Some (node kind kids dict m ts d)))
      (first_some visit_fault (walk_below (walks_of kids) (walk_of dict) path (Live m ts d))) here e in
      let met = are-met path (node kind kids dict m ts d) here in
      let a =
      all-depth kids ok.3 0 path ts (counted (length (tree_list ts)) (length (tree_list kids)) (met rules.ChildCount))
      (append-left visit_fault (walk_children (walks_of kids) 0 path (tree_list ts)) (walk_dictionary (walk_of dict) path (option_tree d)) below) in
      let b =
      dict-depth dict ok.4 path d (counted (one_if (option_tree d)) (one_if (option_tree dict)) (met rules.Dictionary))
      (append-right visit_fault (walk_children (walks_of kids) 0 path (tree_list ts)) (walk_dictionary (walk_of dict) path (option_tree d)) below) in
      omega (arith, a, b)

  all-depth : (kids : Trees DataType) → AllNodesOk kids → (k : ℕ) (path : Steps) (ts : Trees ArrayMembers) → length (tree_list ts) ≡ length (tree_list kids)
      → first_some visit_fault (walk_children (walks_of kids) k path (tree_list ts)) ≡ None → depth_of_all ts ≤ depth_of_all kids
  all-depth no_trees ok k path no_trees same e = omega arith
  all-depth no_trees ok k path (more_trees t ts) same e = absurd (omega (arith, same))
  all-depth (more_trees kid kids) ok k path no_trees same e = omega arith
  all-depth (more_trees kid kids) ok k path (more_trees t ts) same e =
      let a =
      depth-at kid ok.0 (path ++ k ∷ []) t
      (append-left visit_fault (visits kid (path ++ k ∷ []) t) (walk_children (walks_of kids) (suc k) path (tree_list ts)) e) in
      let b =
      all-depth kids ok.1 (suc k) path ts (omega (arith, same))
      (append-right visit_fault (visits kid (path ++ k ∷ []) t) (walk_children (walks_of kids) (suc k) path (tree_list ts)) e) in
      omega (arith, a, b)

  dict-depth : (dict : MaybeTree DataType) → DictNodesOk dict → (path : Steps) (d : MaybeTree ArrayMembers)
      → one_if (option_tree d) ≡ one_if (option_tree dict)
      → first_some visit_fault (walk_dictionary (walk_of dict) path (option_tree d)) ≡ None → depth_of_maybe d ≤ depth_of_maybe dict
  dict-depth absent ok path absent same e = omega arith
  dict-depth absent ok path (present t) same e = absurd (omega (arith, same))
  dict-depth (present kinds) ok path absent same e = omega arith
  dict-depth (present kinds) ok path (present t) same e = depth-at kinds ok (path ++ dictionary_step ∷ []) t e

pub depth-lawful : (typed : KindTree) (t : ArrayTree) → NodesOk typed → LayoutOk typed t → Depth t ≤ Depth typed
depth-lawful typed t ok lawful = depth-at typed ok [] t (lawful-first_fault typed t lawful)
