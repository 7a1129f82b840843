use Rattle.std.proofs.Common.{inl, inr, arith}
use Rattle.std.proofs.lemmas.Str.Parse.{digits_value-take-le}
use Rattle.field_codec.proofs.Numbers.{large_text, part_front, whole_front}
use Rattle.field_codec.proofs.number.longest_magnitude.Goals as goal
use Rattle.field_codec.proofs.number.longest_magnitude.Goals.{then-count-eq0-via-then-count-eq0, then-count-eq0-via-else-count-eq0+then-count-text}
use Rattle.field_codec.proofs.number.longest_magnitude.Goals.{then-count-eq0-via-else-count-eq0+else-count-text+then-value}

pub returns-in_err-value-clause-none : goal.returns-in_err-value-clause-none
returns-in_err-value-clause-none c = rw c.from_residual.ensures (inr (large_text c.args.text.now c.in_err-value.ensures.large))

pub returns-then-count-eq0-clause-none : goal.returns-then-count-eq0-clause-none
returns-then-count-eq0-clause-none c =
    let front = c.in_ok-value in
    elim c.then-count-eq0.branch [
      | then-count-eq0-via-then-count-eq0 w ↦ inl (part_front c.args.text.now front.count front.ensures.count (inl w.if-count-eq0.true))
      | then-count-eq0-via-else-count-eq0+then-count-text w ↦ inl (part_front c.args.text.now front.count front.ensures.count (inr w.if-count-text.true))
      | then-count-eq0-via-else-count-eq0+else-count-text+then-value w ↦
          inr (omega (arith, front.ensures.value, digits_value-take-le 10 c.args.text.now front.count (omega arith), w.if-value.true))
    ]

pub returns-clause-numeral : goal.returns-clause-numeral
returns-clause-numeral c =
    let front = c.in_ok-value in
    (whole_front c.args.text.now front.count front.value front.ensures.count front.ensures.value c.if-count-eq0.false c.if-count-text.false).is
