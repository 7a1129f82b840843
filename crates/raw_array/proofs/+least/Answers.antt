use Rattle.std.proofs.Common.{rules, ap, arith}
use Rattle.raw_place.specs.Kept.{values_of}
use Rattle.tree_model.specs.Tree.{Depth}
use Rattle.tree_model.proofs.Measures.{Depth-get_or, least_of_all-take}
use Rattle.tree_model.specs.promise.TreeData.{Released}
use Rattle.raw_array.specs.promise.Members.{whole}
use Rattle.raw_array.specs.Members.{LeastAmount, least}
use Rattle.raw_array.proofs.+least.Goals as goal

pub measures::least_below-least_amount-requires : goal.measures::least_below-least_amount-requires
measures::least_below-least_amount-requires t c =
    let inside = Depth-get_or (values_of c.args.children.now) c.loop-i.i (omega (arith, c.len-i-end.ensures.exact, c.loop-i-test.true)) in
    let item = ap Depth (c.get.ensures.by_index Released) in
    search rules

pub measures::least_below-loop-i-preserved : goal.measures::least_below-loop-i-preserved
measures::least_below-loop-i-preserved t c =
    let next = least_of_all-take whole least (values_of c.args.children.now) c.loop-i.i (omega (arith, c.len-i-end.ensures.exact, c.loop-i-test.true)) in
    let item = ap LeastAmount (c.get.ensures.by_index Released) in
    search rules
