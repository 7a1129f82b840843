use Rattle.layout_rules.proofs.TreeLaws.{root_holds, parts_hold, items_hold}
use Rattle.layout_rules.proofs.laws.lawful_trees.Goals as goal

pub returns : goal.returns
returns c = record { root = root_holds; parts = parts_hold; items = items_hold }
