-- A type that is made of types that are in order.
use Rattle.std.proofs.Common.{subst, sym}
use Rattle.data_types.specs.Kinds.{KindOk}
use Rattle.tree_model.specs.promise.TreeData.{trees, maybe_tree}
use Rattle.data_types.specs.KindTrees.{KidsOk, DictOk, NodesOk, AllNodesOk, DictNodesOk}
use Rattle.data_types.specs.declared.typed.Typed.{Typed, out-Typed}
use Rattle.data_types.specs.promise.TypedView.{typed_of}
use Rattle.data_types.specs.TypedView.{kids_of, dict_in}
use Rattle.data_types.proofs.Levels.{typed_out, levels-typed}

pub nodes-made : (t : Typed) → KindOk (out-Typed t).kind → KidsOk (out-Typed t).kind (trees (kids_of t))
    → DictOk (out-Typed t).kind (maybe_tree (dict_in (out-Typed t).dict))
    → AllNodesOk (trees (kids_of t)) → DictNodesOk (maybe_tree (dict_in (out-Typed t).dict)) → NodesOk (typed_of t)
nodes-made t kind kids dict below behind = subst NodesOk (sym (typed_out t)) (kind, kids, dict, below, behind)

pub ruleset made = (nodes-made, levels-typed, typed_out)
