-- The cost and the number of children of a tree that a part was put into or taken out of.
use Rattle.std.proofs.Common.{◌≡◌, ℕ, ◌+◌, ◌<◌, List, [], ◌∷◌, length, get_or, set, refl, ap, ◌∙◌, arith, suc, zero}
use Rattle.std.proofs.lemmas.List.{length-set}
use Rattle.tree_model.specs.promise.TreeData.{Tree, Released, Live, trees, tree_list, MaybeTree, absent, present}
use Rattle.tree_model.specs.promise.TreeCost.{Cost, cost_of_all}
use Rattle.tree_model.specs.promise.TreeParts.{children_of, child_at}
use Rattle.tree_model.specs.Tree.{dictionary_at}
use Rattle.tree_model.specs.Tree.{with_child, without_dictionary}
use Rattle.tree_model.proofs.Lists.{trees-tree_list, tree_list-trees}

pub cost_of_all-set : {M : Type 0} → (holds : M → ℕ) (xs : List (Tree M)) (i : ℕ) (c : Tree M) → i < length xs
    → cost_of_all holds (trees (set xs i c)) + Cost holds (get_or xs i Released) ≡ cost_of_all holds (trees xs) + Cost holds c
cost_of_all-set holds [] i c h = absurd (omega arith)
cost_of_all-set holds (x ∷ xs) zero c h = omega arith
cost_of_all-set holds (x ∷ xs) (suc i) c h = omega (arith, cost_of_all-set holds xs i c (omega arith))

pub Cost-child : {M : Type 0} → (holds : M → ℕ) (t : Tree M) (i : ℕ) (c : Tree M) → i < length (children_of t)
    → Cost holds (with_child t i c) + Cost holds (child_at t i) ≡ Cost holds t + Cost holds c
Cost-child holds Released i c h = absurd (omega arith)
Cost-child holds (Live m ts d) i c h =
    let same = ap (cost_of_all holds) (trees-tree_list ts) in
    omega (arith, same, cost_of_all-set holds (tree_list ts) i c h)

pub Cost-dictionary : {M : Type 0} → (holds : M → ℕ) (t : Tree M) → Cost holds (without_dictionary t) + Cost holds (dictionary_at t) ≡ Cost holds t
Cost-dictionary holds Released = omega arith
Cost-dictionary holds (Live m ts absent) = omega arith
Cost-dictionary holds (Live m ts (present t)) = omega arith

-- the number of children stays
pub length-child : {M : Type 0} → (t : Tree M) (i : ℕ) (c : Tree M) → length (children_of (with_child t i c)) ≡ length (children_of t)
length-child Released i c = refl
length-child (Live m ts d) i c = ap length (tree_list-trees (set (tree_list ts) i c)) ∙ length-set (tree_list ts) i c

pub length-dictionary : {M : Type 0} → (t : Tree M) → length (children_of (without_dictionary t)) ≡ length (children_of t)
length-dictionary Released = refl
length-dictionary (Live m ts d) = refl

pub ruleset parted = (Cost-child, Cost-dictionary, length-child, length-dictionary)
