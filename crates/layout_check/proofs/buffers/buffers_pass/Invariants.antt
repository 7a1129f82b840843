use Rattle.std.proofs.Common.{◌≡◌, None}
use Rattle.raw_array.specs.promise.Members.{members_of}
use Rattle.layout_rules.specs.promise.Rules.{buffer_absent, first_below}
use Rattle.layout_rules.specs.Rules.{buffer_short}
use Rattle.layout_check.proofs.buffers.buffers_pass.Given as goal

-- the buffers so far are there, and long enough
abbrev pub invariant-loop-k : goal.invariant-loop-k
invariant-loop-k l =
    (first_below (buffer_absent l.node.layout (members_of l.node.array.now)) l.k ≡ None)
    × (first_below (buffer_short l.node.layout (members_of l.node.array.now)) l.k ≡ None)
