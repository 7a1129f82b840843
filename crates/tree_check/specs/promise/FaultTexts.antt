-- The texts of faults.
use Rattle.std.specs.Prelude.{ℕ, ◌++◌, List, codes}
use Rattle.schema_check.specs.promise.FaultTexts.{schema_rule_text}
use Rattle.data_types.specs.promise.WayTexts.{way_text}
use Rattle.layout_rules.specs.promise.FaultTexts.{layout_fault_text}
use Rattle.data_types.specs.promise.Ways.{steps_of}
use Rattle.tree_text.specs.promise.FaultTexts.{text_fault_text}
use Rattle.tree_check.specs.declared.fault.TreeFault.{TreeFault}
use Rattle.tree_check.specs.declared.fault.TreeFault.TheVariants as trees

-- what is printed of a fault: the line, or the way to the node, the rule's name, and what it says
abbrev pub tree_fault_text : TreeFault → List ℕ
tree_fault_text (trees.Text fault) = text_fault_text fault
tree_fault_text (trees.Schema path rule) = codes "tree " ++ way_text (steps_of path) ++ codes ": schema: " ++ schema_rule_text rule
tree_fault_text (trees.Layout fault) = codes "tree " ++ layout_fault_text fault
