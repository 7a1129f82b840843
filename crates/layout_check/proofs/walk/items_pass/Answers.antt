use Rattle.std.proofs.Common.{◌≡◌, ◌&&◌, true, rules, sym, ◌∙◌, arith}
use Rattle.std.proofs.lemmas.Bool.{and_parts}
use Rattle.std.specs.Prelude.{is_none}
use Rattle.layout_rules.specs.declared.rule.LayoutRule.TheVariants.{ChildShort, NullCount, ViewPlace, ViewPrefix, NotText, IndexRange, WindowTooLong}
use Rattle.layout_rules.specs.promise.Rules.{fails}
use Rattle.layout_rules.specs.Rules.{item_rules}
use Rattle.layout_check.specs.NodeView.{live_node}
use Rattle.layout_check.proofs.Passes.{none-rules, held, held-last, node}
use Rattle.layout_check.proofs.walk.items_pass.Goals.{then-is_none, else-is_none, then-is_none-2, else-is_none-2, then-views_pass, else-views_pass}
use Rattle.layout_check.proofs.walk.items_pass.Goals.{then-texts_pass, else-texts_pass}
use Rattle.layout_check.proofs.walk.items_pass.Goals as goal

-- all rules before the last hold, one by one from the back
pub returns-then-indices_pass : goal.returns-then-indices_pass
returns-then-indices_pass c path =
    let node = live_node c.args.typed.now c.args.node.now.array.now in
    let indices : (c.if-views_pass.value ≡ true) × (is_none (fails IndexRange node) ≡ true) =
    elim c.if-texts_pass.branch [ then-texts_pass w ↦ (search rules, search rules) | else-texts_pass w ↦ absurd (search rules) ] in
    let texts : (c.if-is_none-2.value ≡ true) × (is_none (fails NotText node) ≡ true) =
    elim c.if-views_pass.branch [ then-views_pass w ↦ (search rules, search rules) | else-views_pass w ↦ absurd (search rules) ] in
    let views : (c.if-is_none.value ≡ true) × ((is_none (fails ViewPlace node) && is_none (fails ViewPrefix node)) ≡ true) =
    elim c.if-is_none-2.branch [ then-is_none-2 w ↦ (search rules, search rules) | else-is_none-2 w ↦ absurd (search rules) ] in
    let placed = and_parts (is_none (fails ViewPlace node)) (is_none (fails ViewPrefix node)) views.1 in
    let counts : (is_none (fails ChildShort node) ≡ true) × (is_none (fails NullCount node) ≡ true) =
    elim c.if-is_none.branch [ then-is_none w ↦ (search rules, search rules) | else-is_none w ↦ absurd (search rules) ] in
    let window : c.is_none-then-indices_pass.result ≡ is_none (fails WindowTooLong node) = search rules in
    held _ _ _ counts.0 (held _ _ _ counts.1 (held _ _ _ placed.0 (held _ _ _ placed.1 (held _ _ _ texts.1 (held _ _ _ indices.1 (held-last _ _ window))))))
    ∙ sym (none-rules item_rules path node)

pub returns-else-indices_pass : goal.returns-else-indices_pass
returns-else-indices_pass c = grind (arith, node)
