-- One level of the code's tree of kinds.
use Rattle.std.proofs.Common.{◌≡◌, ℕ, zero, suc, ◌+◌, ◌<◌, ◌≤◌, max, List, [], ◌∷◌, length, get_or, map, Option, None, Some, refl, ap, ◌∙◌, subst, arith}
use Rattle.std.specs.Global.{Box}
use Rattle.tree_model.specs.promise.TreeData.{Live, Released, trees, maybe_tree}
use Rattle.tree_model.specs.Tree.{Depth, depth_of_all, depth_of_maybe}
use Rattle.data_types.specs.promise.KindTrees.{KindTree}
use Rattle.data_types.specs.KindTrees.{NodesOk, AllNodesOk, DictNodesOk}
use Rattle.data_types.specs.Kinds.{KindOk}
use Rattle.data_types.specs.declared.typed.Typed.{Typed, out-Typed}
use Rattle.data_types.specs.declared.typed.Typed.TheOpen.{Typed-F}
use Rattle.data_types.specs.declared.typed.Typed.TheFolds.{map-Typed, fold_out-Typed}
use Rattle.data_types.specs.promise.TypedView.{typed_of, dict_of}
use Rattle.data_types.specs.TypedView.{layer, dict_in, kids_of}

dict_at : (x : Typed-F Typed) (d : Option (Box Typed)) → x.dict ≡ d → dict_of (map-Typed Typed KindTree typed_of x).dict ≡ dict_in d
dict_at x None e = rw e refl
dict_at x (Some b) e = rw e refl

-- one level of the code's tree, as a tree
pub typed_out : (t : Typed) → typed_of t ≡ Live (out-Typed t).kind (trees (map typed_of (out-Typed t).kids.items)) (maybe_tree (dict_in (out-Typed t).dict))
typed_out t =
    fold_out-Typed KindTree layer t
    ∙ ap (λ (d : Option KindTree). Live (out-Typed t).kind (trees (map typed_of (out-Typed t).kids.items)) (maybe_tree d))
    (dict_at (out-Typed t) (out-Typed t).dict refl)

pub levels-typed : (t : Typed) → Depth (typed_of t) ≡ 1 + max (depth_of_all (trees (kids_of t))) (depth_of_maybe (maybe_tree (dict_in (out-Typed t).dict)))
levels-typed t = ap Depth (typed_out t)

-- a kid's tree is that of the kid
pub get_or-typed : (kids : List Typed) (i : ℕ) (d : Typed) → i < length kids → get_or (map typed_of kids) i Released ≡ typed_of (get_or kids i d)
get_or-typed [] i d h = absurd (omega arith)
get_or-typed (k ∷ kids) zero d h = refl
get_or-typed (k ∷ kids) (suc i) d h = get_or-typed kids i d (omega arith)

-- the kid at a place, under its list's bounds
pub levels-kid : (kids : List Typed) (i : ℕ) (d : Typed) → i < length kids → Depth (typed_of (get_or kids i d)) ≤ depth_of_all (trees (map typed_of kids))
levels-kid [] i d h = absurd (omega arith)
levels-kid (k ∷ kids) zero d h = omega arith
levels-kid (k ∷ kids) (suc i) d h = omega (arith, levels-kid kids i d (omega arith))

-- what is asked of each type holds at a node, its kids and its dictionary

pub kind-ok : (t : Typed) → NodesOk (typed_of t) → KindOk (out-Typed t).kind
kind-ok t h = (subst NodesOk (typed_out t) h).0

pub kids-ok : (t : Typed) → NodesOk (typed_of t) → AllNodesOk (trees (kids_of t))
kids-ok t h = (subst NodesOk (typed_out t) h).3

pub dict-ok : (t : Typed) → NodesOk (typed_of t) → DictNodesOk (maybe_tree (dict_in (out-Typed t).dict))
dict-ok t h = (subst NodesOk (typed_out t) h).4

pub kid-ok : (kids : List Typed) (i : ℕ) (d : Typed) → i < length kids → AllNodesOk (trees (map typed_of kids)) → NodesOk (typed_of (get_or kids i d))
kid-ok [] i d l h = absurd (omega arith)
kid-ok (k ∷ kids) zero d l h = h.0
kid-ok (k ∷ kids) (suc i) d l h = kid-ok kids i d (omega arith) h.1

pub ruleset one_level = (typed_out)
