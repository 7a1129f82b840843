use Rattle.std.proofs.Common.{◌≡◌, None}
use Rattle.raw_array.specs.promise.Members.{members_of}
use Rattle.layout_rules.specs.promise.Rules.{first_below}
use Rattle.union_cols.specs.promise.UnionRules.{bad_id}
use Rattle.union_cols.proofs.node.UnionNode.ids_wrong.Given as goal

abbrev pub invariant-loop-i : goal.invariant-loop-i
invariant-loop-i l = first_below (bad_id l.table.ids.now (members_of l.self.array.now)) l.i ≡ None
