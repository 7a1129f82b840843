use Rattle.std.proofs.Common.{rules, ◌<◌, length, ap, sym, subst, arith}
use Rattle.tree_model.specs.Tree.{Depth}
use Rattle.data_types.specs.KindTrees.{NodesOk}
use Rattle.data_types.specs.promise.TypedView.{typed_of}
use Rattle.data_types.specs.declared.typed.Typed.{Typed}
use Rattle.pipe_top.proofs.TypedKids.{depth-kid, kid-ok}
use Rattle.pipe_top.proofs.kept_kinds.+kinds.Goals as goal

pub kept_kids-kept_kinds-requires : goal.kept_kids-kept_kinds-requires
kept_kids-kept_kinds-requires t c =
    let kid = c.kid-item.result in
    let i = c.loop-kid.kid-index in
    let kids = c.args.kids.now in
    let within : i < length kids = omega arith in
    let ok : NodesOk (typed_of kid) = subst (λ (x : Typed). NodesOk (typed_of x)) (sym c.kid-item.is) (kid-ok kids i kid within c.requires) in
    let depth = depth-kid kids i kid within in
    let is = ap (λ (x : Typed). Depth (typed_of x)) c.kid-item.is in
    search rules
