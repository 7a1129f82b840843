use Rattle.std.proofs.Common.{◌≡◌, ◌<◌, length, get_or, refl, ap, sym, ◌∙◌, arith}
use Rattle.std.proofs.lemmas.List.{length-set}
use Rattle.tree_model.specs.promise.TreeData.{Released}
use Rattle.tree_model.specs.promise.TreeParts.{children_of, child_at}
use Rattle.tree_model.specs.Tree.{Depth}
use Rattle.tree_model.specs.promise.TreeCost.{Nodes, no_holds}
use Rattle.tree_model.proofs.Parted.{Cost-child}
use Rattle.arr_move.proofs.Filled.{children_of-with_child, Depth-child_at}
use Rattle.arr_move.proofs.Moving.{with_own_children, place_inside, place_vacant, one_more, all_moved, other_child}
use Rattle.arr_move.proofs.fields.move_fields.Goals as goal

pub loop-place-init : goal.loop-place-init
loop-place-init c = (sym (with_own_children c.args.top.now), (λ j low high. refl), refl, refl)

pub move_field-requires-clause-shallow : goal.move_field-requires-clause-shallow
move_field-requires-clause-shallow c =
    let place = c.loop-place.place in
    let pick = get_or c.args.picks.now place 0 in
    let inside : place < length c.args.picks.now = omega (arith, c.loop-place-test.true) in
    let same = ap Depth (c.loop-place.invariant.1 place (omega arith) inside) in
    let deep = Depth-child_at c.args.moved.now pick (c.requires.in_range place inside) in
    omega (arith, same, deep, c.requires.shallow)

pub move_field-requires-clause-place : goal.move_field-requires-clause-place
move_field-requires-clause-place c =
    let inside : c.loop-place.place < length c.args.picks.now = omega (arith, c.loop-place-test.true) in
    place_inside c.args.top.now c.loop-place.top c.args.picks.now _ c.loop-place.place c.loop-place.invariant.0 c.requires.places inside

pub move_field-requires-clause-vacant : goal.move_field-requires-clause-vacant
move_field-requires-clause-vacant c =
    let inside : c.loop-place.place < length c.args.picks.now = omega (arith, c.loop-place-test.true) in
    place_vacant c.args.top.now c.loop-place.top c.args.picks.now _ c.loop-place.place c.loop-place.invariant.0 c.requires.places inside
    ∙ c.requires.vacant c.loop-place.place

pub loop-place-preserved : goal.loop-place-preserved
loop-place-preserved c =
    let place = c.loop-place.place in
    let picks = c.args.picks.now in
    let pick = get_or picks place 0 in
    let inside : place < length picks = omega (arith, c.loop-place-test.true) in
    let is = c.loop-place.invariant.1 place (omega arith) inside in
    let field = child_at c.loop-place.moved pick in
    let more = one_more c.args.top.now c.loop-place.top picks _ place c.loop-place.invariant.0 c.requires.places inside field is in
    let there : pick < length (children_of c.loop-place.moved) = omega (arith, c.requires.in_range place inside, c.loop-place.invariant.2) in
    let room = place_inside c.args.top.now c.loop-place.top picks _ place c.loop-place.invariant.0 c.requires.places inside in
    let vacant = place_vacant c.args.top.now c.loop-place.top picks _ place c.loop-place.invariant.0 c.requires.places inside ∙ c.requires.vacant place in
    let number = ap (λ m. length (children_of m)) c.move_field.ensures.moved ∙ ap length (children_of-with_child c.loop-place.moved pick Released) in (
      c.move_field.ensures.top ∙ more,
      (λ j low high. ap (λ m. child_at m (get_or picks j 0)) c.move_field.ensures.moved
          ∙ other_child c.loop-place.moved pick (get_or picks j 0) (λ e. c.requires.distinct place j (omega (arith, low)) high (sym e))
          ∙ c.loop-place.invariant.1 j (omega (arith, low)) high),
      number ∙ length-set (children_of c.loop-place.moved) pick Released ∙ c.loop-place.invariant.2,
      omega (
        arith,
        ap Nodes c.move_field.ensures.moved,
        ap Nodes c.move_field.ensures.top,
        Cost-child no_holds c.loop-place.moved pick Released there,
        Cost-child no_holds c.loop-place.top place field room,
        ap Nodes vacant,
        c.loop-place.invariant.3,
      ),
    )

pub returns-clause-top : goal.returns-clause-top
returns-clause-top c =
    let end : c.loop-place.place ≡ length c.args.picks.now = omega (arith, c.loop-place-test.false, c.loop-place.auto.place-end) in
    all_moved c.args.top.now c.loop-place.top c.args.picks.now _ c.loop-place.place c.loop-place.invariant.0 c.requires.places end
