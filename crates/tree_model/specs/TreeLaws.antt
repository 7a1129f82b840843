-- What the acts on trees keep, for trees over any members.
use Rattle.std.specs.Prelude.{◌≡◌, ℕ, ◌+◌, ◌<◌, length}
use Rattle.tree_model.specs.promise.TreeData.{Tree, Released}
use Rattle.tree_model.specs.promise.TreeParts.{children_of, child_at}
use Rattle.tree_model.specs.TreeParts.{dictionary_at}
use Rattle.tree_model.specs.promise.TreeCost.{Nodes, Holds, Cost}
use Rattle.tree_model.specs.TreeCost.{Depth}
use Rattle.tree_model.specs.TreeActs.{with_child, without_dictionary, map_tree}

abbrev pub CostIsNodesAndHolds : Type 0 → Type 0
CostIsNodesAndHolds M = (holds : M → ℕ) (t : Tree M) → Cost holds t ≡ Nodes t + Holds holds t

-- what is taken out and what is left have the cost of the whole
abbrev pub TakenChildCost : Type 0 → Type 0
TakenChildCost M = (holds : M → ℕ) (t : Tree M) (i : ℕ) → Cost holds (with_child t i Released) + Cost holds (child_at t i) ≡ Cost holds t

abbrev pub TakenDictionaryCost : Type 0 → Type 0
TakenDictionaryCost M = (holds : M → ℕ) (t : Tree M) → Cost holds (without_dictionary t) + Cost holds (dictionary_at t) ≡ Cost holds t

-- a child that is put in the place of a released one adds its cost
abbrev pub PutChildCost : Type 0 → Type 0
PutChildCost M =
    (holds : M → ℕ) (t c : Tree M) (i : ℕ) → i < length (children_of t) → child_at t i ≡ Released → Cost holds (with_child t i c) ≡ Cost holds t + Cost holds c

-- a change of members that keeps each node's holds keeps the cost, and any change keeps the depth
abbrev pub ChangedCost : Type 0 → Type 0
ChangedCost M = (holds : M → ℕ) (change : M → M) → ((m : M) → holds (change m) ≡ holds m) → (t : Tree M) → Cost holds (map_tree change t) ≡ Cost holds t

abbrev pub ChangedDepth : Type 0 → Type 0
ChangedDepth M = (change : M → M) (t : Tree M) → Depth (map_tree change t) ≡ Depth t
