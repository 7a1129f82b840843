use Rattle.std.proofs.Common.{arith, ap, w64, to_z, of_z}
use Rattle.tree_model.specs.promise.TreeData.{trees}
use Rattle.raw_array.specs.Members.{cost_of_all}
use Rattle.arr_move.proofs.MovedChildren.{cost-cut, cost-push}
use Rattle.arr_move.proofs.children.move_child.Goals as goal

pub returns-clause-cost : goal.returns-clause-cost
returns-clause-cost c =
    let items = ap (λ cs. cost_of_all (trees cs)) c.push_reserved.ensures.items in
    let push = cost-push c.args.columns.now.items c.slice.result in
    let off = to_z w64 (of_z w64 c.args.off) in
    let len = to_z w64 (of_z w64 c.args.len) in
    let cut = cost-cut c.windows_keep_measures.ensures.cost c.in-Ok.child c.slice.result off len c.slice.ensures in
    omega (arith, items, push, cut, c.in-Ok.ensures.parted)
