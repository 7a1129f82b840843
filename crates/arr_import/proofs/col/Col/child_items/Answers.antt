use Rattle.std.proofs.Common.{◌<◌, length, sym, subst, arith}
use Rattle.std.proofs.lemmas.List.{length-map}
use Rattle.tree_model.specs.promise.TreeParts.{child_at}
use Rattle.data_types.specs.declared.typed.Typed.{out-Typed}
use Rattle.data_types.specs.promise.TypedView.{typed_of}
use Rattle.layout_rules.specs.promise.Walk.{LayoutOk}
use Rattle.arr_import.proofs.Reading.{kid-ok, kid-tree}
use Rattle.arr_import.proofs.col.Col.child_items.Goals as goal

pub window-requires-clause-lawful : goal.window-requires-clause-lawful
window-requires-clause-lawful c =
    let t = c.args.self.now.typed.now in
    let kids = (out-Typed t).kids.items in
    let kid = c.index-kid.result.now in
    let inside : c.args.k < length kids = omega (arith, c.requires.inside, length-map kids typed_of) in
    let lawful : LayoutOk (typed_of kid) (child_at c.args.self.now.array.now c.args.k) =
    subst (λ u. LayoutOk u (child_at c.args.self.now.array.now c.args.k)) (kid-tree kids c.args.k kid inside c.index-kid.ensures)
    (c.lawful_parts.ensures.children c.args.k c.requires.inside) in
    c.lawful_has_no_fault-2.ensures.1 (subst (λ a. LayoutOk (typed_of kid) a) (sym c.child-child.ensures) lawful)

pub window-requires-clause-valid : goal.window-requires-clause-valid
window-requires-clause-valid c =
    let t = c.args.self.now.typed.now in
    let kids = (out-Typed t).kids.items in
    let inside : c.args.k < length kids = omega (arith, c.requires.inside, length-map kids typed_of) in
    kid-ok t c.kinds_of_typed.ensures c.args.k c.index-kid.result.now inside c.index-kid.ensures c.args.self.now.valid
