use Rattle.std.proofs.Common.{sym, get_or, ◌≡◌, length, arith, ap, ◌+◌, ◌*◌, ◌∙◌}
use Rattle.field_codec.proofs.Numbers.{digit_is, front_large, front_len, front_more}
use Rattle.field_codec.proofs.number.long_front.Goals as goal

pub returns-then-not-is_ascii_digit-clause-count : goal.returns-then-not-is_ascii_digit-clause-count
returns-then-not-is_ascii_digit-clause-count c =
    front_len c.args.text.now c.loop-place.place c.loop-place.value c.loop-place.invariant.front (omega arith)
    (λ within. sym c.is_ascii_digit.ensures.value ∙ c.if-not-is_ascii_digit.true)

pub returns-then-value-ge-LAST_STEP-clause-large : goal.returns-then-value-ge-LAST_STEP-clause-large
returns-then-value-ge-LAST_STEP-clause-large c =
    front_large c.args.text.now c.loop-place.place c.loop-place.value c.loop-place.invariant.front (omega arith)
    (sym c.is_ascii_digit.ensures.value ∙ c.if-not-is_ascii_digit.false) c.if-value-ge-LAST_STEP.true

pub loop-place-preserved : goal.loop-place-preserved
loop-place-preserved c =
    let is = sym c.is_ascii_digit.ensures.value ∙ c.if-not-is_ascii_digit.false in
    record {
      front = front_more c.args.text.now c.loop-place.place c.loop-place.value c.loop-place.invariant.front (omega arith) is _
          (ap (λ x. c.loop-place.value * 10 + x) c.from.ensures);
      small = omega (arith, (digit_is (get_or c.args.text.now c.loop-place.place 0) is).high, c.from.ensures, c.if-value-ge-LAST_STEP.false);
    }

pub returns-clause-count : goal.returns-clause-count
returns-clause-count c =
    let all : length c.args.text.now ≡ c.loop-place.place = omega arith in
    all ∙ front_len c.args.text.now c.loop-place.place c.loop-place.value c.loop-place.invariant.front (omega arith) (λ within. absurd (omega arith))
