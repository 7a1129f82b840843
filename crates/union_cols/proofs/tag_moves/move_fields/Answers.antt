use Rattle.std.proofs.Common.{◌≡◌, ◌<◌, length, refl, ap, sym, ◌∙◌, arith}
use Rattle.std.proofs.lemmas.List.{length-set}
use Rattle.tree_model.specs.promise.TreeData.{Released}
use Rattle.tree_model.specs.promise.TreeParts.{children_of, child_at}
use Rattle.tree_model.specs.Tree.{Depth}
use Rattle.tree_model.specs.promise.TreeCost.{Nodes, no_holds}
use Rattle.tree_model.proofs.Parted.{Cost-child}
use Rattle.arr_move.specs.TreeActs.{with_children}
use Rattle.arr_move.proofs.Filled.{children_of-with_child, Depth-child_at}
use Rattle.arr_move.proofs.Moving.{with_own_children, place_inside, place_vacant, one_more, all_moved, other_child}
use Rattle.union_cols.specs.Tags.{numbers}
use Rattle.union_cols.proofs.Numbering.{length-numbers, list-numbers, number-at}
use Rattle.union_cols.proofs.tag_moves.move_fields.Goals as goal

pub loop-place-init : goal.loop-place-init
loop-place-init c = record {
  front = sym (with_own_children c.args.top.now);
  rest = λ j low high. refl;
  places = refl;
  cost = refl;
}

pub move_field-requires : goal.move_field-requires
move_field-requires c =
    let place = c.loop-place.place in
    let n = length (children_of c.args.moved.now) in
    let picks = numbers n in
    let inside : place < n = omega (arith, c.loop-place-test.true, c.requires.count) in
    let among : place < length picks = omega (arith, inside, length-numbers n) in
    let long = c.requires.places ∙ sym (length-numbers n) in
    let same = ap Depth (c.loop-place.invariant.rest place (omega arith) inside) in
    let deep = Depth-child_at c.args.moved.now place inside in
    record {
      inside = omega (arith, inside, c.loop-place.invariant.places);
      shallow = omega (arith, same, deep, c.requires.shallow);
      place = place_inside c.args.top.now c.loop-place.top picks (child_at c.args.moved.now) place c.loop-place.invariant.front long among;
      vacant = place_vacant c.args.top.now c.loop-place.top picks (child_at c.args.moved.now) place c.loop-place.invariant.front long among
          ∙ c.requires.vacant place;
    }

pub loop-place-preserved : goal.loop-place-preserved
loop-place-preserved c =
    let place = c.loop-place.place in
    let n = length (children_of c.args.moved.now) in
    let picks = numbers n in
    let inside : place < n = omega (arith, c.loop-place-test.true, c.requires.count) in
    let among : place < length picks = omega (arith, inside, length-numbers n) in
    let long = c.requires.places ∙ sym (length-numbers n) in
    let field = child_at c.loop-place.moved place in
    let is = c.loop-place.invariant.rest place (omega arith) inside ∙ ap (child_at c.args.moved.now) (sym (number-at n place 0 inside)) in
    let more = one_more c.args.top.now c.loop-place.top picks (child_at c.args.moved.now) place c.loop-place.invariant.front long among field is in
    let there : place < length (children_of c.loop-place.moved) = omega (arith, inside, c.loop-place.invariant.places) in
    let room = place_inside c.args.top.now c.loop-place.top picks (child_at c.args.moved.now) place c.loop-place.invariant.front long among in
    let vacant = place_vacant c.args.top.now c.loop-place.top picks (child_at c.args.moved.now) place c.loop-place.invariant.front long among
    ∙ c.requires.vacant place in
    let number = ap (λ m. length (children_of m)) c.move_field.ensures.moved ∙ ap length (children_of-with_child c.loop-place.moved place Released) in
    record {
      front = c.move_field.ensures.top ∙ more;
      rest = λ j low high. ap (λ m. child_at m j) c.move_field.ensures.moved
          ∙ other_child c.loop-place.moved place j (λ e. omega (arith, e, low)) ∙ c.loop-place.invariant.rest j (omega (arith, low)) high;
      places = number ∙ length-set (children_of c.loop-place.moved) place Released ∙ c.loop-place.invariant.places;
      cost = omega (
        arith,
        ap Nodes c.move_field.ensures.moved,
        ap Nodes c.move_field.ensures.top,
        Cost-child no_holds c.loop-place.moved place Released there,
        Cost-child no_holds c.loop-place.top place field room,
        ap Nodes vacant,
        c.loop-place.invariant.cost,
      );
    }

pub returns-clause-top : goal.returns-clause-top
returns-clause-top c =
    let n = length (children_of c.args.moved.now) in
    let end : c.loop-place.place ≡ length (numbers n) =
    omega (arith, c.loop-place-test.false, c.loop-place.auto.place-end, c.requires.count, length-numbers n) in
    all_moved c.args.top.now c.loop-place.top (numbers n) (child_at c.args.moved.now) c.loop-place.place c.loop-place.invariant.front
    (c.requires.places ∙ sym (length-numbers n)) end
    ∙ ap (with_children c.args.top.now) (list-numbers Released (children_of c.args.moved.now))
