use Rattle.std.proofs.Common.{◌≡◌, subst, arith}
use Rattle.std.specs.Prelude.{is_none}
use Rattle.raw_array.specs.promise.Members.{ArrayTree}
use Rattle.layout_rules.specs.Rules.{buffer_rules, item_rules}
use Rattle.layout_check.specs.NodeView.{live_node}
use Rattle.layout_rules.specs.Walk.{rules_fault}
use Rattle.layout_check.proofs.Passes.{none-own}
use Rattle.layout_check.proofs.walk.own_passes.Goals as goal

pub returns-else-readable_passes-clause-exact : goal.returns-else-readable_passes-clause-exact
returns-else-readable_passes-clause-exact c path =
    let same = c.of-node.ensures.array in
    let form = c.form_passes.ensures.exact path in
    let buffers =
    subst (λ (a : ArrayTree). c.readable_passes.result ≡ is_none (rules_fault buffer_rules path (live_node c.args.typed.now a))) same
    (c.readable_passes.ensures.exact path) in
    grind (arith, none-own, form, buffers)

pub returns-then-readable_passes-clause-exact : goal.returns-then-readable_passes-clause-exact
returns-then-readable_passes-clause-exact c path =
    let same = c.of-node.ensures.array in
    let form = c.form_passes.ensures.exact path in
    let buffers =
    subst (λ (a : ArrayTree). c.readable_passes.result ≡ is_none (rules_fault buffer_rules path (live_node c.args.typed.now a))) same
    (c.readable_passes.ensures.exact path) in
    let items =
    subst (λ (a : ArrayTree). c.items_pass.result ≡ is_none (rules_fault item_rules path (live_node c.args.typed.now a))) same
    (c.items_pass.ensures path) in
    grind (arith, none-own, form, buffers, items)
