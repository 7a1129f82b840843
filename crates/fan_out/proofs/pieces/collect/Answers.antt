use Rattle.std.proofs.Common.{rules, arith, ap, sym, ◌∙◌, ◌≡◌, Some}
use Rattle.std.proofs.lemmas.List.{get_or-set_other, get_or_default}
use Rattle.fan_out.proofs.Collecting.{same_set, collected_more}
use Rattle.fan_out.proofs.pieces.collect.Goals as goal

pub returns-then-is_err-clause-kept : goal.returns-then-is_err-clause-kept
returns-then-is_err-clause-kept g c =
    same_set _ _ _ _ _ c.loop-worker.invariant.0 (search rules) c.take_answer.ensures.kept.0 c.take_answer.ensures.kept.1

pub returns-in_default-clause-kept : goal.returns-in_default-clause-kept
returns-in_default-clause-kept g c =
    same_set _ _ _ _ _ c.loop-worker.invariant.0 (search rules) c.take_answer.ensures.kept.0 c.take_answer.ensures.kept.1

pub loop-worker-preserved : goal.loop-worker-preserved
loop-worker-preserved g c =
    let i = c.loop-worker.invariant in
    let w = c.loop-worker.worker in
    let ps = c.loop-worker.pieces in
    let told = sym c.take_answer.ensures.answer ∙ c.in-Some-Ok.is ∙ ap Some c.in-Some-Ok.field-0-is in (
      same_set _ _ _ _ _ i.0 (search rules) c.take_answer.ensures.kept.0 c.take_answer.ensures.kept.1,
      collected_more w _ _ _ c.in-Some-Ok.out i.1 (search rules) (λ d. ap (λ p. p.answer)
          (sym (i.2 w d (omega arith)) ∙ get_or_default ps w d c.index-pieces-worker.result (search rules)) ∙ told),
      λ w d h. get_or-set_other _ _ w _ d (λ (e : w ≡ c.loop-worker.worker). omega arith) ∙ i.2 w d (omega arith),
    )
