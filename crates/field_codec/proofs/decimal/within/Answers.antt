use Rattle.std.proofs.Common.{◌^◌, ◌<◌, arith, refl, rules}
use Rattle.std.specs.Int.{w64}
use Rattle.std.proofs.lemmas.Bool.{lt-ltb}
use Rattle.std.proofs.lemmas.Int.{to_z-of_z}
use mir.Val.{SFits}
use Rattle.field_codec.proofs.Numbers.{few_digits}
use Rattle.field_codec.proofs.decimal.within.Goals as goal
use Rattle.field_codec.proofs.decimal.within.Goals.{else-precision-lt18-via-then-precision-lt18+else-number-power}
use Rattle.field_codec.proofs.decimal.within.Goals.{else-precision-lt18-via-else-precision-lt18}

pub returns : goal.returns
returns c =
    let number = c.in_ok-number in
    let fine : number.number < 10 ^ 18 = search rules in
    let small : number.number < 10 ^ c.args.precision =
    elim c.else-precision-lt18.branch [
      | else-precision-lt18-via-then-precision-lt18+else-number-power w ↦ omega (arith, w.if-number-power.false, w.power.ensures)
      | else-precision-lt18-via-else-precision-lt18 w ↦
          omega (arith, fine, few_digits 18 c.args.precision (omega (arith, w.if-precision-lt18.false)))
    ] in
    let signed = c.with_short_sign in
    let fits : SFits w64 signed.result = search rules in
    rw (to_z-of_z w64 signed.result fits, signed.ensures, number.was, lt-ltb number.number (10 ^ c.args.precision) small) refl
