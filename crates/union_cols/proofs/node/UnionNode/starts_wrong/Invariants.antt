use Rattle.std.proofs.Common.{◌≡◌, None}
use Rattle.layout_rules.specs.promise.Rules.{first_below}
use Rattle.union_cols.specs.promise.UnionRules.{bad_start}
use Rattle.union_cols.proofs.node.UnionNode.starts_wrong.Given as goal

abbrev pub invariant-loop-i : goal.invariant-loop-i
invariant-loop-i l = first_below (bad_start l.table.ids.now l.self.array.now) l.i ≡ None
