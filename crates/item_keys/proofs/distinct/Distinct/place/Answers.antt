use Rattle.std.proofs.Common.{◌≡◌, ◌∙◌, ◌-◌, ℕ, List, [], length, get_or, sym, ap, subst, arith}
use Rattle.std.specs.Str.{bytes_eq}
use Rattle.item_keys.specs.Distinct.{AreTaken}
use Rattle.item_keys.proofs.Found.{AreOthers, at-is, free-new, full-others, lent-at, others-more, slot-is, taken-more}
use Rattle.item_keys.proofs.distinct.Distinct.place.Goals as goal

pub loop-step-init : goal.loop-step-init
loop-step-init c = record {
  taken = λ step small none. omega (arith, small);
  others = λ texts holds step small. absurd (omega (arith, small));
}

pub returns-then-first-eq0 : goal.returns-then-first-eq0
returns-then-first-eq0 c = λ texts holds.
    let d = c.args.self.now in
    let slots = d.slots.items in
    let now = c.as_slice-slots.result.now in
    let same = c.as_slice-slots.ensures.value in
    let step = c.loop-step.step in
    let here = slot-is now slots c.args.text.now c.hash_of-hash.result step c.slot_at-at.result same c.hash_of-hash.ensures c.slot_at-at.ensures.is in
    record {
      new = free-new d texts c.args.text.now step holds c.loop-step-test.true (c.loop-step.invariant.others texts holds) (here ∙ c.if-first-eq0.true);
      step = step;
      within = c.loop-step-test.true;
      is = at-is now slots c.args.text.now c.hash_of-hash.result step c.slot_at-at.result same c.hash_of-hash.ensures c.slot_at-at.ensures.is;
      inside = omega (arith, c.slot_at-at.ensures.inside, ap (λ (ss : List ℕ). length ss) same);
      free = ap (λ (ss : List ℕ). get_or ss c.slot_at-at.result 0) (sym same) ∙ c.if-first-eq0.true;
      before = c.loop-step.invariant.taken;
    }

pub loop-step-preserved : goal.loop-step-preserved
loop-step-preserved c =
    let d = c.args.self.now in
    let slots = d.slots.items in
    let text = c.args.text.now in
    let now = c.as_slice-slots.result.now in
    let same = c.as_slice-slots.ensures.value in
    let step = c.loop-step.step in
    let here = slot-is now slots text c.hash_of-hash.result step c.slot_at-at.result same c.hash_of-hash.ensures c.slot_at-at.ensures.is in
    record {
      taken = taken-more slots text step c.loop-step.invariant.taken (λ none. c.if-first-eq0.false (sym here ∙ none));
      others = λ texts holds.
          let first = get_or now c.slot_at-at.result 0 in
          let most = holds.numbered c.slot_at-at.result in
          let own : get_or slots c.slot_at-at.result 0 ≡ first = ap (λ (ss : List ℕ). get_or ss c.slot_at-at.result 0) (sym same) in
          let lent = lent-at d texts (first - 1) c.index.result.now holds (omega (arith, most, own, c.if-first-eq0.false)) c.index.ensures in
          others-more texts slots text step (c.loop-step.invariant.others texts holds)
          (ap (λ n. bytes_eq (get_or texts (n - 1) []) text) here ∙ ap (λ (t : List ℕ). bytes_eq t text) lent ∙ sym c.if-eq.ensures);
    }

pub returns : goal.returns
returns c = λ texts holds.
    let d = c.args.self.now in
    let all : c.loop-step.step ≡ 8 = omega (arith, c.loop-step-test.false, c.loop-step.auto.step-end) in
    full-others d texts c.args.text.now holds (subst (λ n. AreTaken d.slots.items c.args.text.now n) all c.loop-step.invariant.taken)
    (subst (λ n. AreOthers texts d.slots.items c.args.text.now n) all (c.loop-step.invariant.others texts holds))
