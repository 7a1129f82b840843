use Rattle.std.proofs.Common.{◌≡◌, ◌+◌, ◌%◌, ◌^◌, ◌<◌, length, decimal, arith}
use Rattle.field_codec.proofs.DigitText.{pointed-digits, ten-some, unit-long, unit-small, with-point, without-point}
use Rattle.field_codec.proofs.number_text.rare_decimal.Goals as goal

pub returns-then-places-eq0-clause-text : goal.returns-then-places-eq0-clause-text
returns-then-places-eq0-clause-text c =
    without-point c.args.minus c.args.places c.args.number _ c.args.text.now (omega (arith, c.if-places-eq0.true)) c.requires.room c.write_whole.ensures.text

pub nonzero_rem-number : goal.nonzero_rem-number
nonzero_rem-number c = omega (arith, ten-some c.args.places, c.power-unit.ensures)

pub overflow_add-unit : goal.overflow_add-unit
overflow_add-unit c =
    let small : c.power-unit.result + c.args.number % c.power-unit.result < 2 ^ 64 =
    rw c.power-unit.ensures (unit-small c.args.places c.args.number c.requires.few) in
    omega (arith, small)

pub write_digits-point-requires : goal.write_digits-point-requires
write_digits-point-requires c =
    let long : length (decimal (c.power-unit.result + c.args.number % c.power-unit.result))
    ≡ c.args.places + 1 = rw c.power-unit.ensures (unit-long c.args.places c.args.number c.requires.few) in
    (omega (arith, long, c.requires.few), omega (arith, c.requires.room))

pub bounds-text-point : goal.bounds-text-point
bounds-text-point c =
    let long : length (decimal (c.power-unit.result + c.args.number % c.power-unit.result))
    ≡ c.args.places + 1 = rw c.power-unit.ensures (unit-long c.args.places c.args.number c.requires.few) in
    omega (arith, long, c.write_digits-point.ensures.start, c.write_digits-point.auto.buf, c.requires.room)

pub nonzero_div-number : goal.nonzero_div-number
nonzero_div-number c = omega (arith, ten-some c.args.places, c.power-unit.ensures)

pub write_whole-requires-2-clause-room : goal.write_whole-requires-2-clause-room
write_whole-requires-2-clause-room c =
    let long : length (decimal (c.power-unit.result + c.args.number % c.power-unit.result))
    ≡ c.args.places + 1 = rw c.power-unit.ensures (unit-long c.args.places c.args.number c.requires.few) in
    omega (arith, long, c.write_digits-point.ensures.start, c.requires.few)

pub returns-clause-text : goal.returns-clause-text
returns-clause-text c =
    let long : length (decimal (c.power-unit.result + c.args.number % c.power-unit.result))
    ≡ c.args.places + 1 = rw c.power-unit.ensures (unit-long c.args.places c.args.number c.requires.few) in
    let written = rw c.power-unit.ensures at c.write_digits-point.ensures.written in
    let inside : c.write_digits-point.result < length c.write_digits-point.new.buf =
    omega (arith, long, c.write_digits-point.ensures.start, c.write_digits-point.auto.buf, c.requires.room) in
    with-point c.args.minus c.args.places c.args.number c.power-unit.result _ _ (omega (arith, c.if-places-eq0.false)) c.power-unit.ensures
    c.write_whole-2.ensures.text
    (pointed-digits c.args.places c.args.number c.write_digits-point.result c.write_digits-point.new.buf c.args.text.now c.requires.few inside
    c.requires.room written)
