-- A list of released trees, and a live tree whose children they are.
use Rattle.std.proofs.Common.{◌≡◌, ℕ, length, get_or, replicate, refl, ap, ◌∙◌, arith, suc, zero}
use Rattle.std.proofs.lemmas.List.{length-replicate, replicate_more, set-get_or}
use Rattle.tree_model.specs.promise.TreeData.{Tree, Released, Live, MaybeTree, trees, tree_list}
use Rattle.tree_model.specs.promise.TreeParts.{child_at, children_of}
use Rattle.tree_model.specs.Tree.{with_child, depth_of_all}
use Rattle.tree_model.specs.promise.TreeCost as tree
use Rattle.tree_model.proofs.Lists.{tree_list-trees, trees-tree_list}

pub get_or-released : {M : Type 0} (n k : ℕ) → get_or (replicate {A = Tree M} n Released) k Released ≡ Released
get_or-released zero k = refl
get_or-released (suc n) zero = refl
get_or-released (suc n) (suc k) = get_or-released n k

pub cost_of_released : {M : Type 0} (holds : M → ℕ) (n : ℕ) → tree.cost_of_all holds (trees (replicate n Released)) ≡ 0
cost_of_released holds zero = refl
cost_of_released holds (suc n) = omega (arith, cost_of_released holds n)

pub depth_of_released : (M : Type 0) (n : ℕ) → depth_of_all (trees (replicate {A = Tree M} n Released)) ≡ 0
depth_of_released M zero = refl
depth_of_released M (suc n) = omega (arith, depth_of_released M n)

-- a tree without a unit is released
pub released_by_cost : {M : Type 0} (holds : M → ℕ) (t : Tree M) → tree.Cost holds t ≡ 0 → t ≡ Released
released_by_cost holds Released e = refl
released_by_cost holds (Live m ts d) e = absurd (omega (arith, e))

-- the children of a tree that is built over released ones
pub number_of_vacant : {M : Type 0} (t : Tree M) (m : M) (d : MaybeTree M) (n : ℕ) → t ≡ Live m (trees (replicate n Released)) d → length (children_of t) ≡ n
number_of_vacant t m d n e = ap (λ u. length (children_of u)) e ∙ ap length (tree_list-trees (replicate n Released)) ∙ length-replicate n Released

pub vacant_at : {M : Type 0} (t : Tree M) (m : M) (d : MaybeTree M) (n k : ℕ) → t ≡ Live m (trees (replicate n Released)) d → child_at t k ≡ Released
vacant_at t m d n k e =
    ap (λ u. child_at u k) e ∙ ap (λ cs. get_or cs k Released) (tree_list-trees (replicate n Released)) ∙ get_or-released n k

-- a child put where it is
pub with_own_child : {M : Type 0} (t : Tree M) (i : ℕ) → with_child t i (child_at t i) ≡ t
with_own_child Released i = refl
with_own_child (Live m ts d) i = ap (λ cs. Live m (trees cs) d) (set-get_or (tree_list ts) i Released) ∙ ap (λ us. Live m us d) (trees-tree_list ts)

pub ruleset vacant = (cost_of_released, depth_of_released, released_by_cost, replicate_more, number_of_vacant, vacant_at)
