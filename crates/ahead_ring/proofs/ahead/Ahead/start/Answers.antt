use Rattle.std.proofs.Common.{rules, ◌∙◌, ◌++◌, ap, sym}
use Rattle.rtrb.specs.Ring.{known_items}
use Rattle.ahead_ring.proofs.ahead.Ahead.start.Goals as goal

pub invariant_of-result : goal.invariant_of-result
invariant_of-result g c =
    let coming = g.M.Maker.coming in
    let new = c.in_ok-producer.ensures in
    let all = ap coming c.of-whole.ensures in
    let none = ap (λ l. l ++ coming c.args.maker) (sym new.producer.0) in
    let known = new.consumer.1 in (
      c.requires,
      tt,
      ((new.pair, new.producer.0 ∙ sym (ap (λ l. l ++ known_items c.in_ok-producer.consumer) new.consumer.0 ∙ known), new.producer.2), all ∙ none),
      (λ _ _. search rules),
      tt,
      (coming c.of-whole.result.value, ap (λ l. (l ++ known_items c.in_ok-producer.consumer) ++ coming c.of-whole.result.value) new.consumer.0 ∙ ap (λ l. l ++ coming c.of-whole.result.value) known),
    )
