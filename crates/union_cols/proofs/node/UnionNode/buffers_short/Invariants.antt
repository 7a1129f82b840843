use Rattle.std.proofs.Common.{◌≡◌, None}
use Rattle.raw_array.specs.promise.Members.{members_of}
use Rattle.layout_rules.specs.promise.Rules.{first_below}
use Rattle.union_cols.specs.UnionRules.{buffer_short}
use Rattle.union_cols.proofs.node.UnionNode.buffers_short.Given as goal

abbrev pub invariant-loop-k : goal.invariant-loop-k
invariant-loop-k l = first_below (buffer_short (members_of l.self.array.now)) l.k ≡ None
