use Rattle.std.proofs.Common.{◌≡◌, ◌<◌, length, map, refl, ap, sym, ◌∙◌, arith, w64, to_z, of_z}
use Rattle.std.proofs.lemmas.Int.{ints}
use Rattle.std.proofs.lemmas.List.{length-set}
use Rattle.tree_model.specs.promise.TreeData.{Released}
use Rattle.tree_model.specs.promise.TreeParts.{children_of, child_at}
use Rattle.tree_model.specs.Tree.{Depth}
use Rattle.raw_array.specs.promise.Members.{Cost, holds}
use Rattle.raw_array.specs.Windows.{Window}
use Rattle.raw_array.proofs.Windows.{Cost-Window}
use Rattle.tree_model.proofs.Parted.{Cost-child}
use Rattle.arr_move.specs.TreeActs.{cut, with_children}
use Rattle.arr_move.proofs.Filled.{children_of-with_child, Depth-child_at}
use Rattle.arr_move.proofs.MovedChildren.{fits-same}
use Rattle.arr_move.proofs.Moving.{with_own_children, place_inside, place_vacant, one_more, all_moved, other_child}
use Rattle.union_cols.specs.Tags.{numbers}
use Rattle.union_cols.proofs.Numbering.{length-numbers, map-numbers, number-at}
use Rattle.union_cols.proofs.tag_moves.move_columns.Goals as goal

pub loop-place-init : goal.loop-place-init
loop-place-init c = record {
  front = sym (with_own_children c.args.top.now);
  rest = λ j low high. refl;
  places = refl;
  cost = refl;
}

pub move_column-requires-clause-inside : goal.move_column-requires-clause-inside
move_column-requires-clause-inside c = omega (arith, c.loop-place-test.true, c.requires.count, c.loop-place.invariant.places)

pub move_column-requires-clause-fits : goal.move_column-requires-clause-fits
move_column-requires-clause-fits c =
    let place = c.loop-place.place in
    let off = to_z w64 (of_z w64 c.args.off) in
    let len = to_z w64 (of_z w64 c.args.len) in
    let inside : place < length (children_of c.args.moved.now) = omega (arith, c.loop-place-test.true, c.requires.count) in
    let same = c.loop-place.invariant.rest place (omega arith) inside in
    fits-same (child_at c.loop-place.moved place) (child_at c.args.moved.now place) c.args.off c.args.len off len same
    (omega (arith, ints)) (omega (arith, ints)) (c.requires.fit place inside)

pub move_column-requires-clause-shallow : goal.move_column-requires-clause-shallow
move_column-requires-clause-shallow c =
    let place = c.loop-place.place in
    let inside : place < length (children_of c.args.moved.now) = omega (arith, c.loop-place-test.true, c.requires.count) in
    let same = ap Depth (c.loop-place.invariant.rest place (omega arith) inside) in
    let deep = Depth-child_at c.args.moved.now place inside in
    omega (arith, same, deep, c.requires.shallow)

pub move_column-requires-clause-place : goal.move_column-requires-clause-place
move_column-requires-clause-place c =
    let n = length (children_of c.args.moved.now) in
    let among : c.loop-place.place < length (numbers n) = omega (arith, c.loop-place-test.true, c.requires.count, length-numbers n) in
    place_inside c.args.top.now c.loop-place.top (numbers n) _ c.loop-place.place c.loop-place.invariant.front
    (c.requires.places ∙ sym (length-numbers n)) among

pub move_column-requires-clause-vacant : goal.move_column-requires-clause-vacant
move_column-requires-clause-vacant c =
    let n = length (children_of c.args.moved.now) in
    let among : c.loop-place.place < length (numbers n) = omega (arith, c.loop-place-test.true, c.requires.count, length-numbers n) in
    place_vacant c.args.top.now c.loop-place.top (numbers n) _ c.loop-place.place c.loop-place.invariant.front
    (c.requires.places ∙ sym (length-numbers n)) among ∙ c.requires.vacant c.loop-place.place

pub loop-place-preserved : goal.loop-place-preserved
loop-place-preserved c =
    let place = c.loop-place.place in
    let n = length (children_of c.args.moved.now) in
    let picks = numbers n in
    let inside : place < n = omega (arith, c.loop-place-test.true, c.requires.count) in
    let among : place < length picks = omega (arith, inside, length-numbers n) in
    let long = c.requires.places ∙ sym (length-numbers n) in
    let off = to_z w64 (of_z w64 c.args.off) in
    let len = to_z w64 (of_z w64 c.args.len) in
    let same = c.loop-place.invariant.rest place (omega arith) inside ∙ ap (child_at c.args.moved.now) (sym (number-at n place 0 inside)) in
    let column = Window (child_at c.loop-place.moved place) off len in
    let is = ap (λ t. Window t off len) same in
    let more = one_more c.args.top.now c.loop-place.top picks (cut c.args.moved.now off len) place c.loop-place.invariant.front long among column is in
    let there : place < length (children_of c.loop-place.moved) = omega (arith, inside, c.loop-place.invariant.places) in
    let room = place_inside c.args.top.now c.loop-place.top picks _ place c.loop-place.invariant.front long among in
    let vacant = place_vacant c.args.top.now c.loop-place.top picks _ place c.loop-place.invariant.front long among ∙ c.requires.vacant place in
    let number = ap (λ m. length (children_of m)) c.move_column.ensures.moved ∙ ap length (children_of-with_child c.loop-place.moved place Released) in
    record {
      front = c.move_column.ensures.top ∙ more;
      rest = λ j low high. ap (λ m. child_at m j) c.move_column.ensures.moved
          ∙ other_child c.loop-place.moved place j (λ e. omega (arith, e, low)) ∙ c.loop-place.invariant.rest j (omega (arith, low)) high;
      places = number ∙ length-set (children_of c.loop-place.moved) place Released ∙ c.loop-place.invariant.places;
      cost = omega (
        arith,
        ap Cost c.move_column.ensures.moved,
        ap Cost c.move_column.ensures.top,
        Cost-child holds c.loop-place.moved place Released there,
        Cost-child holds c.loop-place.top place column room,
        Cost-Window (child_at c.loop-place.moved place) off len,
        ap Cost vacant,
        c.loop-place.invariant.cost,
      );
    }

pub returns-clause-top : goal.returns-clause-top
returns-clause-top c =
    let n = length (children_of c.args.moved.now) in
    let off : to_z w64 (of_z w64 c.args.off) ≡ c.args.off = omega (arith, ints) in
    let len : to_z w64 (of_z w64 c.args.len) ≡ c.args.len = omega (arith, ints) in
    let end : c.loop-place.place ≡ length (numbers n) =
    omega (arith, c.loop-place-test.false, c.loop-place.auto.place-end, c.requires.count, length-numbers n) in
    all_moved c.args.top.now c.loop-place.top (numbers n) _ c.loop-place.place c.loop-place.invariant.front
    (c.requires.places ∙ sym (length-numbers n)) end
    ∙ (λ j. with_children c.args.top.now (map (cut c.args.moved.now (off j) (len j)) (numbers n)))
    ∙ ap (with_children c.args.top.now) (map-numbers (λ t. Window t c.args.off c.args.len) Released (children_of c.args.moved.now))
