use Rattle.std.proofs.Common.{inl, inr}
use Rattle.field_codec.proofs.Numbers.{part_front, whole_front}
use Rattle.field_codec.proofs.number.long_magnitude.Goals as goal
use Rattle.field_codec.proofs.number.long_magnitude.Goals.{then-count-eq0-via-then-count-eq0, then-count-eq0-via-else-count-eq0+then-count-text}

pub returns-then-count-eq0-clause-none : goal.returns-then-count-eq0-clause-none
returns-then-count-eq0-clause-none c =
    let front = c.short_front-value in
    inl (part_front c.args.text.now front.result.1 front.ensures.count (elim c.then-count-eq0.branch [
      | then-count-eq0-via-then-count-eq0 w ↦ inl w.if-count-eq0.true
      | then-count-eq0-via-else-count-eq0+then-count-text w ↦ inr w.if-count-text.true
    ]))

pub returns-clause-numeral : goal.returns-clause-numeral
returns-clause-numeral c =
    let front = c.short_front-value in
    (whole_front c.args.text.now front.result.1 front.result.0 front.ensures.count front.ensures.value c.if-count-eq0.false c.if-count-text.false).is
