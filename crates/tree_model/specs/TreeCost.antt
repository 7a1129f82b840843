-- The live nodes of several trees, the levels of a tree, and the least of a number of its nodes.
use Rattle.std.specs.Prelude.{ℕ, ◌+◌, max, min}
use Rattle.tree_model.specs.promise.TreeData.{Tree, Released, Live, Trees, no_trees, more_trees, MaybeTree, absent, present}
use Rattle.tree_model.specs.promise.TreeCost.{cost_of_all, cost_of_maybe, no_holds}

abbrev pub nodes_of_all : {M : Type 0} → Trees M → ℕ
nodes_of_all ts = cost_of_all no_holds ts

abbrev pub nodes_of_maybe : {M : Type 0} → MaybeTree M → ℕ
nodes_of_maybe d = cost_of_maybe no_holds d

-- 0 for a released tree, else one more than the deepest child or dictionary
abbrev mutual
  pub Depth : {M : Type 0} → Tree M → ℕ
  Depth Released = 0
  Depth (Live members children dictionary) = 1 + max (depth_of_all children) (depth_of_maybe dictionary)

  pub depth_of_all : {M : Type 0} → Trees M → ℕ
  depth_of_all no_trees = 0
  depth_of_all (more_trees t ts) = max (Depth t) (depth_of_all ts)

  pub depth_of_maybe : {M : Type 0} → MaybeTree M → ℕ
  depth_of_maybe absent = 0
  depth_of_maybe (present t) = Depth t

-- the least of a number of the live nodes' members, and at most `most`
abbrev mutual
  pub Least : {M : Type 0} → ℕ → (M → ℕ) → Tree M → ℕ
  Least most number Released = most
  Least most number (Live members children dictionary) =
      min (number members) (min (least_of_all most number children) (least_of_maybe most number dictionary))

  pub least_of_all : {M : Type 0} → ℕ → (M → ℕ) → Trees M → ℕ
  least_of_all most number no_trees = most
  least_of_all most number (more_trees t ts) = min (Least most number t) (least_of_all most number ts)

  pub least_of_maybe : {M : Type 0} → ℕ → (M → ℕ) → MaybeTree M → ℕ
  least_of_maybe most number absent = most
  least_of_maybe most number (present t) = Least most number t
