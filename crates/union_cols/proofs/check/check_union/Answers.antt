use Rattle.std.proofs.Common.{List, map, sym, subst, refl}
use Rattle.std.specs.Prelude.{All}
use Rattle.std.specs.List.{AllZip}
use Rattle.tree_model.specs.promise.TreeParts.{IsLive, children_of}
use Rattle.raw_array.specs.promise.Members.{ArrayTree}
use Rattle.data_types.specs.declared.typed.Typed.{Typed}
use Rattle.data_types.specs.promise.TypedView.{typed_of}
use Rattle.layout_rules.specs.promise.Walk.{LayoutOk}
use Rattle.union_cols.proofs.Holding.{children_live, kinds_live}
use Rattle.union_cols.proofs.check.check_union.Goals as goal

pub check_places-requires-clause-live : goal.check_places-requires-clause-live
check_places-requires-clause-live c =
    let kids = c.args.typed.now.kids.items in
    let children = children_of c.args.array.now in
    let lawful =
    subst (λ (ks : List Typed). AllZip LayoutOk (map typed_of ks) children) c.deref-2.ensures.value (c.in_ok-check_children.ensures.lawful.0 refl) in
    subst (λ (a : ArrayTree). All IsLive (children_of a)) (sym c.of-node.ensures.array)
    (children_live c.lawful_trees.ensures.root (map typed_of kids) children lawful (kinds_live kids))
