use Rattle.std.proofs.Common.{◌≡◌, ◌<◌, length, subst, arith}
use Rattle.tree_model.specs.promise.TreeData.{Released}
use Rattle.tree_model.specs.promise.TreeParts.{IsLive, child_at, children_of}
use Rattle.data_types.specs.promise.TypedView.{typed_of}
use Rattle.first_exchange.proofs.Tables.{child-live, live}
use Rattle.first_exchange.proofs.consume.move_names.Goals as goal

pub take_child-requires : goal.take_child-requires
take_child-requires g c =
    let typed = typed_of c.args.typed.now in
    let root = c.lawful_trees.ensures.root typed c.args.table (live typed c.requires.types.1) c.requires.lawful in
    rw c.begin-parent.ensures (omega (arith, root.kids, c.requires.of_two.two))

pub unreachable-requires : goal.unreachable-requires
unreachable-requires g c =
    let typed = typed_of c.args.typed.now in
    let small : 1 < length (children_of typed) = omega (arith, c.requires.of_two.two) in
    let alive = child-live typed c.args.table 1 c.requires.types.1 c.requires.lawful small c.lawful_trees.ensures.root c.lawful_trees.ensures.parts in
    let gone : child_at c.args.table 1 ≡ Released = rw c.begin-parent.ensures at c.in-Err.ensures.released in
    subst IsLive gone alive
