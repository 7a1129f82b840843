use Rattle.std.proofs.Common.{rules, ◌≡◌, ◌<◌, ◌∙◌, length, map, get_or, sym, ap, arith, subst}
use Rattle.std.proofs.lemmas.List.{length-map}
use Rattle.tree_model.specs.promise.TreeData.{Released}
use Rattle.tree_model.specs.promise.TreeParts.{child_at}
use Rattle.data_types.specs.promise.KindTrees.{KindTree}
use Rattle.data_types.specs.promise.TypedView.{typed_of}
use Rattle.data_types.proofs.Levels.{levels-kid, kid-ok, get_or-typed}
use Rattle.layout_rules.specs.promise.Walk.{LayoutOk}
use Rattle.value_text.proofs.bound.+bounds.Goals as goal

pub kids_bound-bound_of-requires : goal.kids_bound-bound_of-requires
kids_bound-bound_of-requires t c =
    let kids = c.args.kids.now in
    let array = c.args.array.now in
    let k = c.loop-k.k in
    let kid = c.index-kids-k.result in
    let inside : k < length kids = search rules in
    let is = sym c.index-kids-k.is in
    let levels = levels-kid kids k kid inside in
    let ok = kid-ok kids k kid inside c.requires.types in
    let kinds : get_or (map typed_of kids) k Released ≡ typed_of kid = get_or-typed kids k kid inside ∙ ap typed_of is in
    let here : LayoutOk (typed_of kid) (child_at array k) =
    subst (λ (u : KindTree). LayoutOk u (child_at array k)) kinds (c.requires.lawful k (omega (arith, length-map kids typed_of, inside))) in
    let lawful : LayoutOk (typed_of kid) c.child.result.now = subst (LayoutOk (typed_of kid)) (sym c.child.ensures) here in
    search rules
