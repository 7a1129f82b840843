use Rattle.std.proofs.Common.{ℕ, ◌+◌, ◌*◌, ◌^◌, min, ap, ◌∙◌}
use Rattle.fmt_string.proofs.Digits.{digit_above, more_value}
use Rattle.union_cols.proofs.number.number_value.Goals as goal

pub overflow_sub-digit : goal.overflow_sub-digit
overflow_sub-digit c = (digit_above c.args.digits.now c.loop-digit.digit-index c.requires c.loop-digit-test.true).0

pub loop-digit-preserved : goal.loop-digit-preserved
loop-digit-preserved c =
    c.min-value.ensures
    ∙ ap (λ (d : ℕ). min (c.loop-digit.value * 10 + d) (2 ^ 40)) c.from.ensures
    ∙ more_value c.args.digits.now c.loop-digit.digit-index c.loop-digit.value c.requires c.loop-digit-test.true c.loop-digit.invariant
