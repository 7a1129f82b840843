use Rattle.std.proofs.Common.{◌<◌, length, rules}
use Rattle.fmt_string.proofs.Decimals.{no_width, behind_scale, behind_width}
use Rattle.fmt_string.proofs.decimal.with_scale.Goals as goal

pub returns-in_default-clause-fault : goal.returns-in_default-clause-fault
returns-in_default-clause-fault c =
    let some : 0 < length c.args.text.now = search rules in
    behind_scale c.args.precision.now c.args.scale.now c.requires.precision c.requires.scale c.args.text.now c.trailing.result.rule c.trailing.result.place
    c.trailing.ensures.rule c.trailing.ensures.place c.requires.ends c.in_default.ensures.none some

pub returns-in_default-number_len-clause-fault : goal.returns-in_default-number_len-clause-fault
returns-in_default-number_len-clause-fault c =
    no_width c.args.precision.now c.args.scale.now c.requires.precision c.requires.scale c.args.text.now c.in-Some.digits.now c.bad_number.result.rule
    c.bad_number.result.place c.bad_number.ensures.rule c.bad_number.ensures.place c.in-Some.ensures.some c.in_default-number_len.ensures.none

pub returns-then-len-digits-clause-fault : goal.returns-then-len-digits-clause-fault
returns-then-len-digits-clause-fault c =
    behind_width c.args.precision.now c.args.scale.now c.requires.precision c.requires.scale c.args.text.now c.in-Some.digits.now c.in-Some-number_len.len
    c.trailing-then-len-digits.result.rule c.trailing-then-len-digits.result.place c.trailing-then-len-digits.ensures.rule
    c.trailing-then-len-digits.ensures.place c.in-Some.ensures.some c.in-Some-number_len.ensures.found c.if-len-digits.true
