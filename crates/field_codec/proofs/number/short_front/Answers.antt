use Rattle.std.proofs.Common.{sym, get_or, ◌≡◌, length, arith, ap, ◌+◌, ◌*◌, ◌∙◌}
use Rattle.field_codec.proofs.Numbers.{digit_is, few_digits, front_len, front_more, more_small}
use Rattle.field_codec.proofs.number.short_front.Goals as goal

pub returns-then-not-is_ascii_digit-clause-count : goal.returns-then-not-is_ascii_digit-clause-count
returns-then-not-is_ascii_digit-clause-count c =
    front_len c.args.text.now c.loop-place.place c.loop-place.value c.loop-place.invariant.front (omega arith)
    (λ within. sym c.is_ascii_digit.ensures.value ∙ c.if-not-is_ascii_digit.true)

pub overflow_mul-value : goal.overflow_mul-value
overflow_mul-value c = omega (arith, c.loop-place.invariant.small, few_digits c.loop-place.place 18 (omega arith))

pub overflow_add-value : goal.overflow_add-value
overflow_add-value c =
    let digit = digit_is (get_or c.args.text.now c.loop-place.place 0) (sym c.is_ascii_digit.ensures.value ∙ c.if-not-is_ascii_digit.false) in
    omega (arith, c.loop-place.invariant.small, few_digits c.loop-place.place 18 (omega arith), digit.high, c.from.ensures)

pub loop-place-preserved : goal.loop-place-preserved
loop-place-preserved c =
    let is = sym c.is_ascii_digit.ensures.value ∙ c.if-not-is_ascii_digit.false in
    let e = ap (λ x. c.loop-place.value * 10 + x) c.from.ensures in
    record {
      front = front_more c.args.text.now c.loop-place.place c.loop-place.value c.loop-place.invariant.front (omega arith) is _ e;
      small = more_small c.loop-place.value c.loop-place.place c.from.result _ c.loop-place.invariant.small
          (omega (arith, (digit_is (get_or c.args.text.now c.loop-place.place 0) is).high, c.from.ensures)) (omega arith);
    }

pub returns-clause-count : goal.returns-clause-count
returns-clause-count c =
    let all : length c.args.text.now ≡ c.loop-place.place = omega arith in
    all ∙ front_len c.args.text.now c.loop-place.place c.loop-place.value c.loop-place.invariant.front (omega arith) (λ within. absurd (omega arith))
