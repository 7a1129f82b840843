use Rattle.std.proofs.Common.{List, ℕ, subst, IfErr}
use Rattle.fmt_string.specs.promise.FormatString.{NumbersFail}
use Rattle.fmt_string.proofs.Decimals.{precision_and_more}
use Rattle.fmt_string.proofs.decimal.decimal.Goals as goal

pub returns-in-Some-behind_byte-clause-fault : goal.returns-in-Some-behind_byte-clause-fault
returns-in-Some-behind_byte-clause-fault c =
    subst (λ (t : List ℕ). IfErr c.with_precision.result (λ e. NumbersFail t e.rule e.place))
    (precision_and_more c.args.text.now c.split_at.result.0.now c.split_at.result.1.now c.in-Some-behind_byte.rest.now c.in-Some.len c.split_at.ensures.front
    c.split_at.ensures.back c.in-Some-behind_byte.ensures.some)
    c.with_precision.ensures.fault
