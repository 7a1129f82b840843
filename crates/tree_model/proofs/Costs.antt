-- What the acts on trees do to their cost.
use Rattle.std.proofs.Common.{◌≡◌, ℕ, ◌+◌, ◌<◌, List, [], ◌∷◌, length, get_or, set, refl, ap, sym, ◌∙◌, arith, suc, zero}
use Rattle.tree_model.specs.promise.TreeData.{Tree, Released, Live, Trees, no_trees, more_trees, MaybeTree, absent, present, trees, tree_list}
use Rattle.tree_model.specs.promise.TreeCost.{Nodes, Holds, holds_of_all, holds_of_maybe, Cost, cost_of_all, cost_of_maybe}
use Rattle.tree_model.specs.TreeCost.{nodes_of_all, nodes_of_maybe}
use Rattle.tree_model.specs.TreeLaws.{CostIsNodesAndHolds, TakenChildCost, TakenDictionaryCost, PutChildCost, ChangedCost, ChangedDepth}
use Rattle.tree_model.proofs.Lists.{trees-tree_list}
use Rattle.tree_model.proofs.Likeness.{Cost-map, Depth-map}

mutual
  pub cost_is : (M : Type 0) → CostIsNodesAndHolds M
  cost_is M holds Released = refl
  cost_is M holds (Live m ts d) = omega (arith, cost_of_all_is M holds ts, cost_of_maybe_is M holds d)

  cost_of_all_is : (M : Type 0) (holds : M → ℕ) (ts : Trees M) → cost_of_all holds ts ≡ nodes_of_all ts + holds_of_all holds ts
  cost_of_all_is M holds no_trees = refl
  cost_of_all_is M holds (more_trees t ts) = omega (arith, cost_is M holds t, cost_of_all_is M holds ts)

  cost_of_maybe_is : (M : Type 0) (holds : M → ℕ) (d : MaybeTree M) → cost_of_maybe holds d ≡ nodes_of_maybe d + holds_of_maybe holds d
  cost_of_maybe_is M holds absent = refl
  cost_of_maybe_is M holds (present t) = cost_is M holds t

-- a tree taken out of a list, and another put in its place
taken_of_all : {M : Type 0} (holds : M → ℕ) (xs : List (Tree M)) (i : ℕ)
    → cost_of_all holds (trees (set xs i Released)) + Cost holds (get_or xs i Released) ≡ cost_of_all holds (trees xs)
taken_of_all holds [] i = refl
taken_of_all holds (x ∷ xs) zero = omega arith
taken_of_all holds (x ∷ xs) (suc i) = omega (arith, taken_of_all holds xs i)

put_in_all : {M : Type 0} (holds : M → ℕ) (xs : List (Tree M)) (c : Tree M) (i : ℕ) → i < length xs
    → cost_of_all holds (trees (set xs i c)) + Cost holds (get_or xs i Released) ≡ cost_of_all holds (trees xs) + Cost holds c
put_in_all holds [] c i h = absurd (omega arith)
put_in_all holds (x ∷ xs) c zero h = omega arith
put_in_all holds (x ∷ xs) c (suc i) h = omega (arith, put_in_all holds xs c i (omega arith))

pub taken_child : (M : Type 0) → TakenChildCost M
taken_child M holds Released i = refl
taken_child M holds (Live m ts d) i =
    let same = ap (cost_of_all holds) (trees-tree_list ts) in
    omega (arith, same, taken_of_all holds (tree_list ts) i)

pub taken_dictionary : (M : Type 0) → TakenDictionaryCost M
taken_dictionary M holds Released = refl
taken_dictionary M holds (Live m ts absent) = omega arith
taken_dictionary M holds (Live m ts (present t)) = omega arith

pub put_child : (M : Type 0) → PutChildCost M
put_child M holds Released c i h e = absurd (omega arith)
put_child M holds (Live m ts d) c i h e =
    let same = ap (cost_of_all holds) (trees-tree_list ts) in
    let none : Cost holds (get_or (tree_list ts) i Released) ≡ 0 = ap (Cost holds) e in
    omega (arith, same, none, put_in_all holds (tree_list ts) c i h)

pub changed_cost : (M : Type 0) → ChangedCost M
changed_cost M holds change same t = Cost-map holds change same t

pub changed_depth : (M : Type 0) → ChangedDepth M
changed_depth M change t = Depth-map change t
