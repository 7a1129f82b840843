use Rattle.std.proofs.Common.{arith, ◌≡◌, ◌+◌, ◌-◌, ◌∙◌, ◌++◌, map, take, drop, ap, w64, to_z, of_z}
use Rattle.std.proofs.lemmas.Int.{ints}
use Rattle.tree_model.specs.promise.TreeParts.{children_of, child_at}
use Rattle.tree_model.specs.promise.TreeData.{trees}
use Rattle.raw_array.specs.promise.Members.{Cost, members_of}
use Rattle.raw_array.specs.Members.{cost_of_all}
use Rattle.arr_move.proofs.MovedChildren.{at-later, cost-push, cut_to, fits-same}
use Rattle.dict_stage.proofs.ReplacedChildren.{parts-are, rest-later}
use Rattle.dict_stage.proofs.replaced.move_replaced_children.Goals as goal

pub move_children-requires-2-clause-fit : goal.move_children-requires-2-clause-fit
move_children-requires-2-clause-fit c = λ k low small.
    let array = c.args.array in
    let now = c.move_children.new.moved in
    let off = to_z w64 (of_z w64 c.offset-off.result) in
    let len = to_z w64 (of_z w64 c.length-len.result) in
    let before = c.move_children.ensures.rest ∙ ap (λ t. drop c.args.place (children_of t)) c.begin-moved.ensures in
    let same = at-later (children_of now) (children_of array) c.args.place k (omega (arith, low)) before in
    fits-same (child_at now k) (child_at array k) (members_of array).offset (members_of array).length off len same
    (omega (arith, ints, c.offset-off.ensures)) (omega (arith, ints, c.length-len.ensures)) (c.requires.shown.fit k (omega (arith, small)))

pub returns-clause-columns : goal.returns-clause-columns
returns-clause-columns c =
    let array = c.args.array in
    let place = c.args.place in
    let count = c.count_children-count.result in
    let off : to_z w64 (of_z w64 c.offset-off.result) ≡ (members_of array).offset = omega (arith, ints, c.offset-off.ensures) in
    let len : to_z w64 (of_z w64 c.length-len.result) ≡ (members_of array).length = omega (arith, ints, c.length-len.ensures) in
    let first = c.move_children.new.columns.items in
    let second = c.push_reserved.new.self.items in
    let third = c.move_children-2.new.columns.items in
    let before = c.move_children.ensures.rest ∙ ap (λ t. drop place (children_of t)) c.begin-moved.ensures in
    let rest = rest-later (children_of c.move_children.new.moved) (children_of array) place before in
    parts-are array c.args.column place count first second third c.count_children-count.ensures.exact
    (c.move_children.ensures.columns
    ∙ (λ i. c.requires.empty i ++ map (cut_to (off i) (len i)) (take (place - 0) (drop 0 (children_of (c.begin-moved.ensures i))))))
    c.push_reserved.ensures.items
    (c.move_children-2.ensures.columns ∙ (λ i. second ++ map (cut_to (off i) (len i)) (take (count - (place + 1)) (rest i))))

pub returns-clause-units : goal.returns-clause-units
returns-clause-units c =
    let items = ap (λ cs. cost_of_all (trees cs)) c.push_reserved.ensures.items in
    let push = cost-push c.move_children.new.columns.items c.args.column in
    let none = ap (λ cs. cost_of_all (trees cs)) c.requires.empty in
    let whole = ap Cost c.begin-moved.ensures in
    omega (arith, items, push, none, whole)
