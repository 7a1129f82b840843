use Rattle.std.proofs.Common.{◌≡◌, None}
use Rattle.raw_array.specs.promise.Members.{members_of}
use Rattle.layout_rules.specs.promise.Rules.{index_wrong, first_below}
use Rattle.layout_check.proofs.indices.first_bad_index.Given as goal

abbrev pub invariant-loop-i : goal.invariant-loop-i
invariant-loop-i l = first_below (index_wrong l.width l.signed (members_of l.node.array.now) l.total) l.i ≡ None
