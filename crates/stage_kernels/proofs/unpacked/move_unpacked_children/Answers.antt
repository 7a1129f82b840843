use Rattle.std.proofs.Common.{arith, ◌≡◌, ◌+◌, ◌-◌, ◌∙◌, ◌++◌, map, take, drop, ap, w64, to_z, of_z}
use Rattle.std.proofs.lemmas.Int.{ints}
use Rattle.tree_model.specs.promise.TreeParts.{children_of, child_at}
use Rattle.tree_model.specs.promise.TreeData.{trees}
use Rattle.raw_array.specs.promise.Members.{Cost, members_of}
use Rattle.raw_array.specs.Members.{cost_of_all}
use Rattle.raw_array.specs.Windows.{Window}
use Rattle.array_laws.specs.Picking.{cut_children}
use Rattle.arr_move.proofs.MovedChildren.{at-later, at-place, cost-cut, cut_to, fits-same, rest-taken}
use Rattle.stage_kernels.proofs.UnpackedChildren.{parts-are}
use Rattle.stage_kernels.proofs.unpacked.move_unpacked_children.Goals as goal

pub move_children-requires-2-clause-fit : goal.move_children-requires-2-clause-fit
move_children-requires-2-clause-fit c = λ k low small.
    let array = c.args.array in
    let now = c.take_child.new.self in
    let off = to_z w64 (of_z w64 c.offset-off.result) in
    let len = to_z w64 (of_z w64 c.length-len.result) in
    let before = c.move_children.ensures.rest ∙ ap (λ t. drop c.args.place (children_of t)) c.begin-moved.ensures in
    let rest = rest-taken array c.move_children.new.moved now c.args.place before c.in-Ok.ensures.rest in
    let same = at-later (children_of now) (children_of array) (c.args.place + 1) k low rest in
    fits-same (child_at now k) (child_at array k) (members_of array).offset (members_of array).length off len same
    (omega (arith, ints, c.offset-off.ensures)) (omega (arith, ints, c.length-len.ensures)) (c.requires.shown.outer.fit k (omega (arith, small)))

pub returns-clause-columns : goal.returns-clause-columns
returns-clause-columns c =
    let array = c.args.array in
    let place = c.args.place in
    let count = c.count_children-count.result in
    let off : to_z w64 (of_z w64 c.offset-off.result) ≡ (members_of array).offset = omega (arith, ints, c.offset-off.ensures) in
    let len : to_z w64 (of_z w64 c.length-len.result) ≡ (members_of array).length = omega (arith, ints, c.length-len.ensures) in
    let first = c.move_children.new.columns.items in
    let second = c.move_all_children.new.columns.items in
    let third = c.move_children-2.new.columns.items in
    let before = c.move_children.ensures.rest ∙ ap (λ t. drop place (children_of t)) c.begin-moved.ensures in
    let rest = rest-taken array c.move_children.new.moved c.take_child.new.self place before c.in-Ok.ensures.rest in
    let inner = c.in-Ok.ensures.tree ∙ at-place (children_of c.move_children.new.moved) (children_of array) place before in
    let cut = c.slice.ensures ∙ (λ i. Window (inner i) (off i) (len i)) in
    parts-are array place count first second third c.count_children-count.ensures.exact
    (c.move_children.ensures.columns
    ∙ (λ i. c.requires.empty i ++ map (cut_to (off i) (len i)) (take (place - 0) (drop 0 (children_of (c.begin-moved.ensures i))))))
    (c.move_all_children.ensures.columns ∙ (λ i. first ++ cut_children (cut i)))
    (c.move_children-2.ensures.columns ∙ (λ i. second ++ map (cut_to (off i) (len i)) (take (count - (place + 1)) (rest i))))

pub returns-clause-units : goal.returns-clause-units
returns-clause-units c =
    let off = to_z w64 (of_z w64 c.offset-off.result) in
    let len = to_z w64 (of_z w64 c.length-len.result) in
    let cut = cost-cut c.windows_keep_measures.ensures.cost c.in-Ok.inner c.slice.result off len c.slice.ensures in
    let none = ap (λ cs. cost_of_all (trees cs)) c.requires.empty in
    let whole = ap Cost c.begin-moved.ensures in
    omega (arith, cut, none, whole, c.in-Ok.ensures.parted)
