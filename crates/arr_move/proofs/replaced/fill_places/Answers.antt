use Rattle.std.proofs.Common.{◌≡◌, ◌<◌, suc, ◌+◌, length, take, refl, ap, sym, ◌∙◌, arith}
use Rattle.std.proofs.Math.Seq.{take-length}
use Rattle.tree_model.specs.promise.TreeParts.{children_of}
use Rattle.tree_model.specs.Tree.{Depth, with_child}
use Rattle.arr_move.specs.TreeActs.{with_children}
use Rattle.arr_move.proofs.Filled.{Depth-child_at}
use Rattle.arr_move.proofs.Moving.{with_own_children}
use Rattle.arr_move.specs.Fields.{fields_over, new_or_old}
use Rattle.arr_move.proofs.Over.{over-start, place-inside, place-new, one-more}
use Rattle.arr_move.proofs.replaced.fill_places.Goals as goal

pub loop-place-init : goal.loop-place-init
loop-place-init c = record {
  front = sym (with_own_children c.args.top.now) ∙ sym (over-start c.args.top.now);
  rest = λ j low. refl;
  places = refl;
  cost = refl;
}

pub fill_place-requires : goal.fill_place-requires
fill_place-requires c =
    let place = c.loop-place.place in
    let olds = children_of c.args.moved.now in
    let inside : place < length olds = omega (arith, c.loop-place-test.true, c.requires.count) in
    let same = ap Depth (c.loop-place.invariant.rest place (omega arith)) in
    let deep = Depth-child_at c.args.moved.now place inside in
    record {
      inside = omega (arith, inside, c.loop-place.invariant.places);
      shallow = omega (arith, same, deep, c.requires.shallow);
      place = place-inside c.args.top.now c.loop-place.top olds place c.loop-place.invariant.front (omega (arith, inside, c.requires.places));
    }

pub loop-place-preserved : goal.loop-place-preserved
loop-place-preserved c =
    let place = c.loop-place.place in
    let olds = children_of c.args.moved.now in
    let top = c.args.top.now in
    let so = c.loop-place.invariant.front in
    let inside : place < length olds = omega (arith, c.loop-place-test.true, c.requires.count) in
    let new = place-new top c.loop-place.top olds place so in
    let old = c.loop-place.invariant.rest place (omega arith) in
    let next : suc place ≡ place + 1 = omega arith in
    record {
      front = c.fill_place.ensures.top
          ∙ (λ t. with_child c.loop-place.top place (new_or_old (new t) (old t)))
          ∙ one-more top c.loop-place.top olds place so (omega (arith, inside, c.requires.places)) inside
          ∙ ap (λ n. with_children top (fields_over (children_of top) (take n olds))) next;
      rest = λ j low. c.fill_place.ensures.rest j (λ e. omega (arith, e, low)) ∙ c.loop-place.invariant.rest j (omega (arith, low));
      places = c.fill_place.ensures.places ∙ c.loop-place.invariant.places;
      cost = c.fill_place.ensures.cost ∙ c.loop-place.invariant.cost;
    }

pub returns-clause-top : goal.returns-clause-top
returns-clause-top c =
    let top = c.args.top.now in
    let olds = children_of c.args.moved.now in
    let end : c.loop-place.place ≡ length olds = omega (arith, c.loop-place-test.false, c.loop-place.auto.place-end, c.requires.count) in
    c.loop-place.invariant.front
    ∙ ap (λ n. with_children top (fields_over (children_of top) (take n olds))) end
    ∙ ap (λ os. with_children top (fields_over (children_of top) os)) (take-length olds)
