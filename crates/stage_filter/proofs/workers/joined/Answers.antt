use Rattle.std.proofs.Common.{rules, arith, ◌≡◌, ◌∙◌, ◌++◌, ℕ, List, length, ap, refl}
use Rattle.stage_filter.proofs.Found.{all-taken, first-taken, next-taken}
use Rattle.stage_filter.proofs.workers.joined.Goals as goal

pub loop-more-init : goal.loop-more-init
loop-more-init c = first-taken c.args.found.items c.remove-kept.result (search rules) c.remove-kept.ensures.value

pub loop-more-preserved : goal.loop-more-preserved
loop-more-preserved c =
    c.in_ok-extend_from_slice.ensures.items ∙ (λ i. c.loop-more.invariant i ++ c.as_slice.ensures.value i)
    ∙ next-taken c.args.found.items c.deref-more-items.result.now c.loop-more.more-index c.more-item.result
    (c.deref-more-items.ensures.value ∙ c.remove-kept.ensures.items) c.loop-more-test.true c.more-item.is

pub returns : goal.returns
returns c =
    c.loop-more.invariant
    ∙ all-taken c.args.found.items c.deref-more-items.result.now c.loop-more.more-index (c.deref-more-items.ensures.value ∙ c.remove-kept.ensures.items)
    (search rules)
    (omega (arith, c.loop-more-test.false, c.loop-more.auto.more-index-end))
