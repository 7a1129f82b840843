-- The kids of a node of kinds.
use Rattle.std.proofs.Common.{ℕ, zero, suc, ◌<◌, ◌≤◌, List, [], ◌∷◌, length, get_or, map, arith}
use Rattle.tree_model.specs.promise.TreeData.{trees}
use Rattle.tree_model.specs.Tree.{Depth, depth_of_all}
use Rattle.data_types.specs.KindTrees.{AllNodesOk, NodesOk}
use Rattle.data_types.specs.promise.TypedView.{typed_of}
use Rattle.data_types.specs.declared.typed.Typed.{Typed}

-- the types of each are proper where all are
pub kid-ok : (kids : List Typed) (i : ℕ) (d : Typed) → i < length kids → AllNodesOk (trees (map typed_of kids)) → NodesOk (typed_of (get_or kids i d))
kid-ok [] i d within ok = absurd (omega (arith, within))
kid-ok (kid ∷ kids) zero d within ok = ok.0
kid-ok (kid ∷ kids) (suc i) d within ok = kid-ok kids i d (omega (arith, within)) ok.1

-- none is deeper than the deepest
pub depth-kid : (kids : List Typed) (i : ℕ) (d : Typed) → i < length kids → Depth (typed_of (get_or kids i d)) ≤ depth_of_all (trees (map typed_of kids))
depth-kid [] i d within = absurd (omega (arith, within))
depth-kid (kid ∷ kids) zero d within = omega arith
depth-kid (kid ∷ kids) (suc i) d within = omega (arith, depth-kid kids i d (omega (arith, within)))
