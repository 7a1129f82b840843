use Rattle.tree_model.proofs.Costs.{cost_is, taken_child, taken_dictionary, put_child, changed_cost, changed_depth}
use Rattle.tree_model.proofs.acts_keep_costs.Goals as goal

pub returns-clause-sum : goal.returns-clause-sum
returns-clause-sum c c' = cost_is _

pub returns-clause-take_child : goal.returns-clause-take_child
returns-clause-take_child c c' = taken_child _

pub returns-clause-take_dictionary : goal.returns-clause-take_dictionary
returns-clause-take_dictionary c c' = taken_dictionary _

pub returns-clause-put_child : goal.returns-clause-put_child
returns-clause-put_child c c' = put_child _

pub returns-clause-change : goal.returns-clause-change
returns-clause-change c c' = changed_cost _

pub returns-clause-depth : goal.returns-clause-depth
returns-clause-depth c c' = changed_depth _
