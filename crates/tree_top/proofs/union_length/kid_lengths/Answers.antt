use Rattle.std.proofs.Common.{rules, ◌≡◌, ◌+◌, ◌<◌, ◌∙◌, List, length, map, get_or, sym, ap, subst}
use Rattle.tree_model.specs.promise.TreeData.{Released}
use Rattle.tree_model.specs.promise.TreeParts.{child_at, children_of}
use Rattle.raw_array.specs.promise.Members.{ArrayTree}
use Rattle.data_types.specs.promise.KindTrees.{KindTree}
use Rattle.data_types.specs.promise.TypedView.{typed_of}
use Rattle.data_types.proofs.Levels.{get_or-typed}
use Rattle.layout_rules.specs.promise.Values.{tree_items, value_at}
use Rattle.root_check.proofs.ChildFaults.{valid_kid}
use Rattle.union_cols.proofs.Holding.{kid_lawful}
use Rattle.value_text.specs.Lengths.{TellsKids, Tells}
use Rattle.value_text.specs.declared.lengths.Lengths.{Lengths}
use Rattle.value_text.proofs.KidsTold.{more-told}
use Rattle.tree_top.proofs.union_length.kid_lengths.Goals as goal

pub measured_lengths-requires-clause-lawful : goal.measured_lengths-requires-clause-lawful
measured_lengths-requires-clause-lawful c =
    let kids = c.args.typed.now.kids.items in
    let array = c.args.array.now in
    let k = c.loop-k.k in
    let inside : k < length kids = search rules in
    let is : get_or kids k c.index.result.now ≡ c.index.result.now = search rules in
    let there : get_or (children_of array) k Released ≡ c.child.result.now = search rules in
    kid_lawful kids (children_of array) k c.index.result.now c.child.result.now c.union_holds.ensures.children inside is there

pub measured_lengths-requires-clause-types : goal.measured_lengths-requires-clause-types
measured_lengths-requires-clause-types c =
    let kids = c.args.typed.now.kids.items in
    let k = c.loop-k.k in
    let inside : k < length kids = search rules in
    let is : get_or kids k c.index.result.now ≡ c.index.result.now = search rules in
    valid_kid kids k c.index.result.now inside is c.requires.types.kids_are

pub loop-k-preserved : goal.loop-k-preserved
loop-k-preserved c =
    let kids = c.args.typed.now.kids.items in
    let array = c.args.array.now in
    let k = c.loop-k.k in
    let kid = c.index.result.now in
    let inside : k < length kids = search rules in
    let is : get_or kids k kid ≡ kid = search rules in
    let kinds : get_or (map typed_of kids) k Released ≡ typed_of kid = get_or-typed kids k kid inside ∙ ap typed_of is in
    let v = c.in_ok-measured_lengths.field-0 in
    let there : Tells v (value_at (typed_of kid) (child_at array k)) (tree_items (child_at array k)) =
    subst (λ (a : ArrayTree). Tells v (value_at (typed_of kid) a) (tree_items a)) c.child.ensures c.in_ok-measured_lengths.ensures in
    let one : Tells v (value_at (get_or (map typed_of kids) k Released) (child_at array k)) (tree_items (child_at array k)) =
    subst (λ (u : KindTree). Tells v (value_at u (child_at array k)) (tree_items (child_at array k))) (sym kinds) there in
    subst (λ (ls : List Lengths). TellsKids ls (map typed_of kids) array (k + 1)) (sym c.in_ok-push.ensures.items)
    (more-told c.loop-k.kids.items v (map typed_of kids) array k c.loop-k.invariant one)
