use Rattle.std.proofs.Common.{rules, ap, arith}
use Rattle.raw_place.specs.Kept.{values_of}
use Rattle.tree_model.specs.promise.TreeData.{Released}
use Rattle.tree_model.specs.Tree.{Depth}
use Rattle.tree_model.proofs.Measures.{Depth-get_or, depth_of_all-take}
use Rattle.raw_array.proofs.+depth.Goals as goal

pub measures::deepest-depth-requires : goal.measures::deepest-depth-requires
measures::deepest-depth-requires t c =
    let inside = Depth-get_or (values_of c.args.children.now) c.loop-i.i (omega (arith, c.len-i-end.ensures.exact, c.loop-i-test.true)) in
    let item = ap Depth (c.get.ensures.by_index Released) in
    search rules

pub measures::deepest-loop-i-preserved : goal.measures::deepest-loop-i-preserved
measures::deepest-loop-i-preserved t c =
    let next = depth_of_all-take (values_of c.args.children.now) c.loop-i.i (omega (arith, c.len-i-end.ensures.exact, c.loop-i-test.true)) in
    let item = ap Depth (c.get.ensures.by_index Released) in
    search rules
