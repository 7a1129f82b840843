use Rattle.std.proofs.Common.{ℕ, ◌+◌, ◌*◌, ◌%◌, ◌^◌, ap, arith}
use Rattle.field_codec.proofs.Hexadecimals.{read_more}
use Rattle.field_codec.proofs.hexadecimal.read_digits.Goals as goal

pub loop-place-preserved : goal.loop-place-preserved
loop-place-preserved c =
    let digit = c.digit-digit in
    read_more c.args.text.now c.loop-place.place c.loop-place.number c.loop-place.all digit.result _ (omega arith) (omega (arith, c.requires)) digit.ensures
    (ap (λ (d : ℕ). (c.loop-place.number * 16 % 2 ^ 64 + d) % 2 ^ 64) c.from.ensures) c.loop-place.invariant
