use Rattle.std.proofs.Common.{rules, ◌≡◌, ◌+◌, ◌<◌, ◌∙◌, List, length, map, get_or, sym, ap, arith, subst}
use Rattle.std.proofs.lemmas.List.{length-map}
use Rattle.tree_model.specs.promise.TreeData.{Released}
use Rattle.tree_model.specs.promise.TreeParts.{child_at}
use Rattle.raw_array.specs.promise.Members.{ArrayTree}
use Rattle.data_types.specs.promise.KindTrees.{KindTree}
use Rattle.data_types.specs.promise.TypedView.{typed_of}
use Rattle.data_types.proofs.Levels.{levels-kid, kid-ok, get_or-typed}
use Rattle.layout_rules.specs.promise.Values.{tree_items, value_at}
use Rattle.layout_rules.specs.promise.Walk.{LayoutOk}
use Rattle.value_text.specs.Lengths.{TellsKids, Tells}
use Rattle.value_text.specs.declared.lengths.Lengths.{Lengths}
use Rattle.value_text.proofs.KidsTold.{more-told}
use Rattle.value_text.proofs.measure.+lengths.Goals as goal

pub kid_lengths-lengths_of-requires : goal.kid_lengths-lengths_of-requires
kid_lengths-lengths_of-requires t c =
    let kids = c.args.kids.now in
    let array = c.args.array.now in
    let k = c.loop-k.k in
    let kid = c.index-kids-k.result in
    let inside : k < length kids = search rules in
    let is = sym c.index-kids-k.is in
    let levels = levels-kid kids k kid inside in
    let ok = kid-ok kids k kid inside c.requires.types in
    let kinds : get_or (map typed_of kids) k Released ≡ typed_of kid = get_or-typed kids k kid inside ∙ ap typed_of is in
    let here : LayoutOk (typed_of kid) (child_at array k) =
    subst (λ (u : KindTree). LayoutOk u (child_at array k)) kinds (c.requires.lawful k (omega (arith, length-map kids typed_of, inside))) in
    let lawful : LayoutOk (typed_of kid) c.child.result.now = subst (LayoutOk (typed_of kid)) (sym c.child.ensures) here in
    search rules

pub kid_lengths-loop-k-preserved : goal.kid_lengths-loop-k-preserved
kid_lengths-loop-k-preserved t c =
    let kids = c.args.kids.now in
    let array = c.args.array.now in
    let k = c.loop-k.k in
    let kid = c.index-kids-k.result in
    let inside : k < length kids = search rules in
    let is = sym c.index-kids-k.is in
    let kinds : get_or (map typed_of kids) k Released ≡ typed_of kid = get_or-typed kids k kid inside ∙ ap typed_of is in
    let v = c.in_ok-lengths_of.field-0 in
    let there : Tells v (value_at (typed_of kid) (child_at array k)) (tree_items (child_at array k)) =
    subst (λ (a : ArrayTree). Tells v (value_at (typed_of kid) a) (tree_items a)) c.child.ensures c.in_ok-lengths_of.ensures in
    let one : Tells v (value_at (get_or (map typed_of kids) k Released) (child_at array k)) (tree_items (child_at array k)) =
    subst (λ (u : KindTree). Tells v (value_at u (child_at array k)) (tree_items (child_at array k))) (sym kinds) there in
    subst (λ (ls : List Lengths). TellsKids ls (map typed_of kids) array (k + 1)) (sym c.in_ok-push.ensures.items)
    (more-told c.loop-k.lengths.items v (map typed_of kids) array k c.loop-k.invariant one)
