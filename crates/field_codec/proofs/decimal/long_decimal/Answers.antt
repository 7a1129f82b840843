use Rattle.std.proofs.Common.{sym, arith}
use Rattle.std.proofs.Math.Nat.{pow-le-pow_right}
use Rattle.field_codec.proofs.Unscaled.{past_decimal}
use Rattle.field_codec.proofs.decimal.long_decimal.Goals as goal

pub with_sign-requires : goal.with_sign-requires
with_sign-requires c = omega (
  arith,
  c.if-number-long_power.false,
  c.long_power.ensures,
  pow-le-pow_right {n = 10} (omega arith) {i = c.args.precision} {j = 38} (omega (arith, c.requires)),
)

pub returns-in_err-number : goal.returns-in_err-number
returns-in_err-number c =
    rw c.from_residual.ensures (sym (past_decimal c.args.precision c.args.places c.args.text.now c.split_sign-minus.result.1.now
    c.split_sign-minus.ensures.digits c.requires c.in_err-number.ensures.none))
