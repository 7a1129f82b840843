use Rattle.std.proofs.Common.{length, rules, ◌≡◌, ◌<◌, true, false}
use Rattle.std.proofs.lemmas.Bool.{false≢true, iff_false}
use Rattle.raw_array.specs.promise.Members.{members_of}
use Rattle.layout_rules.specs.promise.Layout.{buffer_count}
use Rattle.layout_rules.specs.promise.Rules.{buffer_absent}
use Rattle.layout_rules.specs.Rules.{buffer_short}
use Rattle.layout_rules.proofs.Firsts.{first_below-none, first_below-none_at}
use Rattle.layout_check.proofs.buffers.buffers_pass.Goals as goal

pub returns-then-not-buffer_passes : goal.returns-then-not-buffer_passes
returns-then-not-buffer_passes c =
    let layout = c.args.node.now.layout in
    let own = members_of c.args.node.now.array.now in
    let k = c.loop-k.k in
    let count = buffer_count layout (length own.buffers) in
    let inside : k < count = search rules in
    let fails : c.buffer_passes.result ≡ false = search rules in (
      λ h. absurd (false≢true h),
      λ h. absurd (iff_false c.buffer_passes.ensures fails
          (first_below-none_at (buffer_absent layout own) count k inside h.there, first_below-none_at (buffer_short layout own) count k inside h.enough)),
    )

pub loop-k-preserved : goal.loop-k-preserved
loop-k-preserved c =
    let layout = c.args.node.now.layout in
    let own = members_of c.args.node.now.array.now in
    let k = c.loop-k.k in
    let passes : c.buffer_passes.result ≡ true = search rules in
    let both = c.buffer_passes.ensures.0 passes in
    (first_below-none (buffer_absent layout own) k c.loop-k.invariant.0 both.0, first_below-none (buffer_short layout own) k c.loop-k.invariant.1 both.1)
