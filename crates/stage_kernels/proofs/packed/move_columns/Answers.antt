use Rattle.std.proofs.Common.{arith, ◌<◌, ◌∙◌, ◌++◌, ◌∷◌, [], length, get_or, ap, sym}
use Rattle.std.proofs.lemmas.List.{map_more}
use Rattle.tree_model.specs.promise.TreeData.{Released, trees}
use Rattle.tree_model.specs.promise.TreeParts.{child_at, children_of}
use Rattle.tree_model.proofs.Measures.{cost_of_all-append}
use Rattle.tree_model.proofs.Parted.{Cost-child}
use Rattle.raw_array.specs.promise.Members.{Cost, holds, members_of}
use Rattle.raw_array.specs.Members.{cost_of_all}
use Rattle.raw_array.proofs.Windows.{Cost-Window}
use Rattle.stage_kernels.specs.Packs.{column_in}
use Rattle.stage_kernels.proofs.PackedTrees.{column-stays, left-more}
use Rattle.stage_kernels.proofs.packed.move_columns.Goals as goal

pub loop-place-preserved : goal.loop-place-preserved
loop-place-preserved c =
    let before = c.loop-place.invariant in
    let place = c.loop-place.place in
    let picks = c.args.picks.now in
    let pick = get_or picks place 0 in
    let inside : place < length picks = omega (arith, c.loop-place-test.true) in
    let column = column_in c.loop-place.moved pick in
    let stays = column-stays c.args.moved.now c.loop-place.moved picks place pick before.left (λ k lt. c.requires.distinct k place lt inside) in
    let items = c.push_reserved.ensures.items in
    let pushed = ap (λ cs. cost_of_all (trees cs)) items ∙ cost_of_all-append holds c.loop-place.columns.items (c.take_column-column.result ∷ []) in
    let there : pick < length (children_of c.loop-place.moved) = omega (arith, c.requires.in_range place inside, before.left.places) in
    record {
      columns =
          items ∙ (λ i. before.columns i ++ (c.take_column-column.ensures.column ∙ stays) i ∷ [])
          ∙ sym (map_more (column_in c.args.moved.now) picks place 0 inside);
      count = omega (arith, c.push_reserved.ensures.len, before.count);
      capacity = c.push_reserved.ensures.capacity ∙ before.capacity;
      left = left-more c.args.moved.now c.loop-place.moved c.take_column-column.new.moved picks place before.left c.take_column-column.ensures.moved;
      cost = omega (
        arith,
        pushed,
        ap Cost c.take_column-column.ensures.moved,
        ap Cost c.take_column-column.ensures.column,
        Cost-child holds c.loop-place.moved pick Released there,
        Cost-Window (child_at c.loop-place.moved pick) (members_of c.loop-place.moved).offset (members_of c.loop-place.moved).length,
        before.cost,
      );
    }
