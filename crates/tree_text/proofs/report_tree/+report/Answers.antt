use Rattle.std.proofs.Common.{rules, ◌≡◌, ◌+◌, ◌*◌, ◌<◌, ◌≤◌, ℕ, List, length, map, get_or, sym, ap, ◌∙◌, arith, subst}
use Rattle.std.proofs.lemmas.List.{length-map}
use Rattle.tree_model.specs.promise.TreeData.{Released, trees}
use Rattle.tree_model.specs.promise.TreeParts.{children_of, child_at}
use Rattle.tree_model.specs.Tree.{Depth, depth_of_all}
use Rattle.data_types.specs.declared.typed.Typed.{Typed, out-Typed}
use Rattle.data_types.specs.promise.Ways.{steps_of}
use Rattle.data_types.specs.promise.KindTrees.{KindTree}
use Rattle.data_types.specs.KindTrees.{AllNodesOk}
use Rattle.data_types.specs.promise.TypedView.{typed_of}
use Rattle.layout_rules.specs.promise.Walk.{LayoutOk}
use Rattle.data_types.proofs.Levels.{levels-kid, levels-typed, kid-ok, kids-ok, get_or-typed}
use Rattle.tree_text.proofs.Reports.{child_more, children_end, tree_steps}
use Rattle.tree_text.proofs.report_tree.+report.Goals as goal

pub push_children-push_tree-requires : goal.push_children-push_tree-requires
push_children-push_tree-requires t c =
    let kids = c.args.kids.now in
    let array = c.args.array.now in
    let i = c.loop-i.i in
    let kid = c.index-kids-k.result in
    let inside : i < length kids = search rules in
    let is = sym c.index-kids-k.is in
    let levels = levels-kid kids i kid inside in
    let ok = kid-ok kids i kid inside c.requires.types in
    let kinds : get_or (map typed_of kids) i Released ≡ typed_of kid = get_or-typed kids i kid inside ∙ ap typed_of is in
    let here : LayoutOk (typed_of kid) (child_at array i) =
    subst (λ (k : KindTree). LayoutOk k (child_at array i)) kinds (c.requires.lawful i (omega (arith, length-map kids typed_of, inside))) in
    let lawful : LayoutOk (typed_of kid) c.child.result.now = subst (LayoutOk (typed_of kid)) (sym c.child.ensures) here in
    search rules

pub push_children-loop-i-preserved : goal.push_children-loop-i-preserved
push_children-loop-i-preserved t c =
    let kids = c.args.kids.now in
    let array = c.args.array.now in
    let i = c.loop-i.i in
    let kid = c.index-kids-k.result in
    let inside : i < length kids = search rules in
    let is = sym c.index-kids-k.is in
    child_more kids i kid (steps_of c.args.path.now) array c.loop-i.text.items c.push_tree.new.text.items _ inside c.requires.children c.loop-i.invariant
    (search rules)

pub push_children-returns : goal.push_children-returns
push_children-returns t c =
    children_end c.args.kids.now c.loop-i.i (steps_of c.args.path.now) c.args.array.now c.loop-i.text.items _ (search rules) c.loop-i.invariant

pub push_tree-push_children-requires : goal.push_tree-push_children-requires
push_tree-push_children-requires t c =
    let typed = c.args.typed.now in
    let array = c.args.array.now in
    let kids = c.deref.result.now in
    let same = c.deref.ensures.value in
    let lawful = subst (λ (ks : List Typed). (k : ℕ) → k < length (map typed_of ks)
    → LayoutOk (get_or (map typed_of ks) k Released) (child_at array k)) (sym same) c.lawful_parts.ensures.children in
    let deep = ap (λ (ks : List Typed). depth_of_all (trees (map typed_of ks))) same in
    let levels : c.args.path.now.depth + 1 + depth_of_all (trees (map typed_of kids)) ≤ 64 = omega (arith, levels-typed typed, c.requires.levels, deep) in
    let falls : 2 * depth_of_all (trees (map typed_of kids)) + 1 < 2 * Depth (typed_of typed) = omega (arith, levels-typed typed, deep) in
    let types : AllNodesOk (trees (map typed_of kids)) = subst (λ (ks : List Typed). AllNodesOk (trees (map typed_of ks))) (sym same)
    (kids-ok typed c.requires.types) in
    let children : length (children_of array) ≡ length kids =
    c.lawful_root.ensures.children ∙ length-map (out-Typed typed).kids.items typed_of ∙ ap (λ (ks : List Typed). length ks) (sym same) in
    (omega (arith, falls, c.decreases), (lawful, (levels, (types, (c.lawful_root.ensures.live, children)))))

pub push_tree-returns : goal.push_tree-returns
push_tree-returns t c = grind (arith, tree_steps)
