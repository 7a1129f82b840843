use Rattle.std.proofs.Common.{arith, ◌<◌, ◌≤◌, ◌∙◌, length, ap, w64, to_z, of_z}
use Rattle.std.proofs.lemmas.Int.{ints}
use Rattle.std.proofs.lemmas.List.{length-set}
use Rattle.tree_model.specs.promise.TreeData.{Released}
use Rattle.tree_model.specs.promise.TreeParts.{children_of, child_at}
use Rattle.arr_move.proofs.MovedChildren.{at-place, children-set, fits-same, items-next, rest-taken}
use Rattle.arr_move.proofs.children.move_children.Goals as goal

pub move_child-requires-clause-fits : goal.move_child-requires-clause-fits
move_child-requires-clause-fits c =
    let place = c.loop-place.place in
    let off = to_z w64 (of_z w64 c.args.off) in
    let len = to_z w64 (of_z w64 c.args.len) in
    let same = at-place (children_of c.loop-place.moved) (children_of c.args.moved.now) place c.loop-place.invariant.rest in
    fits-same (child_at c.loop-place.moved place) (child_at c.args.moved.now place) c.args.off c.args.len off len same
    (omega (arith, ints)) (omega (arith, ints)) (c.requires.fit place (omega arith) (omega arith))

pub loop-place-preserved : goal.loop-place-preserved
loop-place-preserved c =
    let place = c.loop-place.place in
    let old = c.loop-place.moved in
    let cs = children_of c.args.moved.now in
    let off = to_z w64 (of_z w64 c.args.off) in
    let len = to_z w64 (of_z w64 c.args.len) in
    let low : c.args.from ≤ place = omega arith in
    let inside : place < length cs = omega arith in
    let same = at-place (children_of old) cs place c.loop-place.invariant.rest in
    let so = c.loop-place.invariant.columns in
    let more = items-next off len c.args.columns.now.items c.loop-place.columns.items cs c.args.from place (child_at old place) low inside so same in
    let moved = c.move_child.ensures.moved in
    let number = ap (λ m. length (children_of m)) moved ∙ ap length (children-set old place Released) ∙ length-set (children_of old) place Released in
    record {
      columns = c.move_child.ensures.columns ∙ more;
      len = omega arith;
      capacity = c.move_child.ensures.capacity ∙ c.loop-place.invariant.capacity;
      places = number ∙ c.loop-place.invariant.places;
      rest = rest-taken c.args.moved.now old c.move_child.new.moved place c.loop-place.invariant.rest moved;
      cost = omega arith;
      less = omega arith;
    }
