use Rattle.std.proofs.Common.{length, rules, ◌≡◌, ◌<◌, None, Some, sym}
use Rattle.raw_array.specs.promise.Members.{members_of}
use Rattle.layout_rules.specs.promise.Layout.{buffer_count}
use Rattle.layout_rules.specs.Rules.{buffer_short}
use Rattle.layout_rules.proofs.Firsts.{first_below-none, first_below-some}
use Rattle.layout_check.proofs.buffers.buffers_short.Goals as goal

pub returns-in-Some : goal.returns-in-Some
returns-in-Some c =
    let own = members_of c.args.node.now.array.now in
    let inside : c.loop-k.k < buffer_count c.args.node.now.layout (length own.buffers) = search rules in
    let is : buffer_short c.args.node.now.layout own c.loop-k.k ≡ Some c.in-Some.numbers = search rules in
    sym (first_below-some (buffer_short c.args.node.now.layout own) (buffer_count c.args.node.now.layout (length own.buffers)) c.loop-k.k c.in-Some.numbers
    inside c.loop-k.invariant is)

pub loop-k-preserved : goal.loop-k-preserved
loop-k-preserved c =
    let own = members_of c.args.node.now.array.now in
    let is : buffer_short c.args.node.now.layout own c.loop-k.k ≡ None = search rules in
    first_below-none (buffer_short c.args.node.now.layout own) c.loop-k.k c.loop-k.invariant is
