use Rattle.std.proofs.Common.{List, ℕ, ◌++◌, subst, IfErr}
use Rattle.fmt_string.specs.promise.FormatString.{comma, NumbersFail}
use Rattle.fmt_string.proofs.Decimals.{no_scale, scale_and_more}
use Rattle.fmt_string.proofs.decimal.with_precision.Goals as goal

pub returns-in_default-clause-fault : goal.returns-in_default-clause-fault
returns-in_default-clause-fault c = no_scale c.args.precision.now c.args.text.now c.bad_number.result.rule c.bad_number.result.place c.bad_number.ensures.rule
    c.bad_number.ensures.place c.requires.precision c.in_default.ensures.none

pub returns-clause-fault : goal.returns-clause-fault
returns-clause-fault c =
    subst (λ (t : List ℕ). IfErr c.with_scale.result (λ e. NumbersFail t e.rule e.place))
    (scale_and_more (c.args.precision.now ++ comma) c.args.text.now c.split_at.result.0.now c.split_at.result.1.now c.in-Some.len c.split_at.ensures.front
    c.split_at.ensures.back)
    c.with_scale.ensures.fault
