use Rattle.std.proofs.Common.{arith, ap, length}
use Rattle.csv_model.proofs.MadeLengths.{digits_rise, made_length}
use Rattle.csv_model.proofs.made_text.room.Goals as goal

pub returns : goal.returns
returns c =
    made_length (length c.format-digits.result.now) c.args.n
    (λ i order. omega (arith, ap length c.format-digits.ensures.text, digits_rise i c.args.n order (omega (arith, c.ranges.n))))
