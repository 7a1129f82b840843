use Rattle.std.proofs.Common.{◌≡◌, length, subst, arith}
use Rattle.layout_rules.specs.declared.rule.LayoutRule.TheVariants.{BufferShort}
use Rattle.layout_rules.specs.promise.Layout.{buffer_count, need}
use Rattle.layout_rules.specs.promise.Rules.{fails, first_below, too_short}
use Rattle.layout_check.specs.NodeView.{live_node, own_of}
use Rattle.layout_check.proofs.walk.check_buffers.Goals as goal

pub returns-in_err-ruled-2-clause-fault : goal.returns-in_err-ruled-2-clause-fault
returns-in_err-ruled-2-clause-fault c =
    let own = own_of c.args.node.now in
    let told : c.buffers_short.result ≡ fails BufferShort (live_node c.args.typed.now c.args.node.now.array.now) =
    subst (λ l. c.buffers_short.result ≡ first_below (λ k. too_short (need l own k) own k) (buffer_count l (length own.buffers))) c.requires.layout c.buffers_short.ensures in
    grind (arith, told)
