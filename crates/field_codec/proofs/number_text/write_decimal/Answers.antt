use Rattle.std.proofs.Common.{arith}
use Rattle.field_codec.proofs.DigitText.{most_digits, without-point}
use Rattle.field_codec.proofs.MovedDigits.{moved_digits, moved_minus}
use Rattle.field_codec.proofs.number_text.write_decimal.Goals as goal

pub returns-then-places-eq0-clause-text : goal.returns-then-places-eq0-clause-text
returns-then-places-eq0-clause-text c =
    without-point c.args.minus c.args.places c.args.number _ c.args.text.now (omega (arith, c.if-places-eq0.true)) c.requires.room c.write_whole.ensures.text

pub write_digits-start-requires : goal.write_digits-start-requires
write_digits-start-requires c = (omega (arith, most_digits c.args.number (omega (arith, c.ranges.number))), omega (arith, c.requires.room))

pub returns-then-not-minus-clause-text : goal.returns-then-not-minus-clause-text
returns-then-not-minus-clause-text c =
    rw c.if-not-minus.true
    (moved_digits c.args.places c.args.number c.write_digits-start.result c.write_digits-start.new.buf c.move_ahead.new.text c.args.text.now
    (omega (arith, c.ranges.number)) (omega (arith, c.if-places-eq0.false)) c.requires.few c.requires.room
    (omega (arith, c.write_digits-start.auto.buf, c.requires.room)) c.write_digits-start.ensures.start
    (omega (arith, c.if-start-point.false)) (omega (arith, c.if-start-point-2.false)) c.write_digits-start.ensures.written c.move_ahead.ensures.text)

pub returns-clause-text : goal.returns-clause-text
returns-clause-text c =
    rw c.if-not-minus.false
    (moved_minus c.args.places c.args.number c.write_digits-start.result c.write_digits-start.new.buf c.move_ahead.new.text c.args.text.now
    (omega (arith, c.ranges.number)) (omega (arith, c.if-places-eq0.false)) c.requires.few c.requires.room
    (omega (arith, c.write_digits-start.auto.buf, c.requires.room)) c.write_digits-start.ensures.start
    (omega (arith, c.if-start-point.false)) (omega (arith, c.if-start-point-2.false)) c.write_digits-start.ensures.written c.move_ahead.ensures.text
    (omega (arith, c.move_ahead.auto.text, c.write_digits-start.auto.buf, c.requires.room)))
