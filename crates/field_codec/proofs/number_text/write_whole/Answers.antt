use Rattle.std.proofs.Common.{arith}
use Rattle.field_codec.proofs.DigitText.{behind_byte, most_digits}
use Rattle.field_codec.proofs.number_text.write_whole.Goals as goal

pub write_digits-start-requires : goal.write_digits-start-requires
write_digits-start-requires c = (omega (arith, most_digits c.args.number (omega (arith, c.ranges.number)), c.requires.room), c.requires.within)

pub overflow_sub-text : goal.overflow_sub-text
overflow_sub-text c = omega (arith, c.write_digits-start.ensures.start, most_digits c.args.number (omega (arith, c.ranges.number)), c.requires.room)

pub overflow_sub-result : goal.overflow_sub-result
overflow_sub-result c = omega (arith, c.write_digits-start.ensures.start, most_digits c.args.number (omega (arith, c.ranges.number)), c.requires.room)

pub returns-clause-text : goal.returns-clause-text
returns-clause-text c =
    let digits = most_digits c.args.number (omega (arith, c.ranges.number)) in
    rw c.if-not-minus.false
    (behind_byte c.write_digits-start.new.buf _ c.write_digits-start.result 45
    (omega (arith, c.write_digits-start.ensures.start, digits, c.requires.room))
    (omega (arith, c.write_digits-start.ensures.start, c.write_digits-start.auto.buf, c.requires.within))
    c.write_digits-start.ensures.written)
