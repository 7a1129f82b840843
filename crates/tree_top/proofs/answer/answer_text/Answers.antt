use Rattle.tree_top.proofs.FewUnits.{units-left}
use Rattle.tree_top.proofs.answer.answer_text.Goals as goal

pub trees_text-requires-clause-some : goal.trees_text-requires-clause-some
trees_text-requires-clause-some c =
    units-left c.args.bytes.now c.in-Ok.schema c.in-Ok.array c.in-Ok.ensures.found c.args.pass.now.units c.read_tree.new.pass.units c.requires
    c.in-Ok.ensures.units
