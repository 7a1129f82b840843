use Rattle.fmt_string.proofs.Decimals.{signed_minus}
use Rattle.fmt_string.proofs.decimal.signed_len.Goals as goal

pub returns-clause-found : goal.returns-clause-found
returns-clause-found c =
    signed_minus c.args.text.now c.in-Some.digits.now c.in_ok-len.len c.in-Some.ensures.some c.in_ok-len.ensures.found c.if-digits-eq48.false
