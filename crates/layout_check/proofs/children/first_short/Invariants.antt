use Rattle.std.proofs.Common.{◌≡◌, drop}
use Rattle.tree_model.specs.promise.TreeParts.{children_of}
use Rattle.layout_rules.specs.promise.Rules.{child_short}
use Rattle.layout_check.proofs.children.first_short.Given as goal

-- what is left has the same first fault
abbrev pub invariant-loop-k : goal.invariant-loop-k
invariant-loop-k l = child_short l.needed 0 (children_of l.array) ≡ child_short l.needed l.k (drop l.k (children_of l.array))
