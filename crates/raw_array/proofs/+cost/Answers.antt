use Rattle.std.proofs.Common.{rules, ap, arith}
use Rattle.raw_place.specs.Kept.{values_of}
use Rattle.tree_model.specs.promise.TreeData.{Released}
use Rattle.tree_model.specs.Tree.{Depth}
use Rattle.raw_array.specs.promise.Members.{Cost, holds}
use Rattle.tree_model.proofs.Measures.{Depth-get_or, cost_of_all-take}
use Rattle.raw_array.proofs.+cost.Goals as goal

pub measures::costs-cost-requires : goal.measures::costs-cost-requires
measures::costs-cost-requires t c =
    let inside = Depth-get_or (values_of c.args.children.now) c.loop-i.i (omega (arith, c.len-i-end.ensures.exact, c.loop-i-test.true)) in
    let item = ap Depth (c.get.ensures.by_index Released) in
    search rules

pub measures::costs-loop-i-preserved : goal.measures::costs-loop-i-preserved
measures::costs-loop-i-preserved t c =
    let next = cost_of_all-take holds (values_of c.args.children.now) c.loop-i.i (omega (arith, c.len-i-end.ensures.exact, c.loop-i-test.true)) in
    let item = ap Cost (c.get.ensures.by_index Released) in
    search rules
