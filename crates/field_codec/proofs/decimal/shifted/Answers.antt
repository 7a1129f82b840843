use Rattle.std.proofs.Common.{◌≡◌, ◌-◌, ◌*◌, ◌^◌, ap, arith, ℕ}
use Rattle.field_codec.proofs.Unscaled.{shifted_above, shifted_below}
use Rattle.field_codec.proofs.decimal.shifted.Goals as goal
use Rattle.field_codec.proofs.decimal.shifted.Goals.{then-zeros-gt38-via-then-zeros-gt38, then-zeros-gt38-via-else-zeros-gt38+then-number-long_power}

pub returns-then-zeros-gt38-clause-none : goal.returns-then-zeros-gt38-clause-none
returns-then-zeros-gt38-clause-none c =
    elim c.then-zeros-gt38.branch [
      | then-zeros-gt38-via-then-zeros-gt38 w ↦
          shifted_above c.args.number 0 c.args.zeros 38 (omega (arith, c.if-number-eq0.false)) (omega (arith, w.if-zeros-gt38.true))
      | then-zeros-gt38-via-else-zeros-gt38+then-number-long_power w ↦
          shifted_above c.args.number (38 - c.args.zeros) c.args.zeros 38 (omega (arith, w.long_power.ensures, w.if-number-long_power.true)) (omega arith)
    ]

pub overflow_mul-result : goal.overflow_mul-result
overflow_mul-result c =
    let below =
    shifted_below c.args.number (38 - c.args.zeros) c.args.zeros 38 (omega (arith, c.long_power.ensures, c.if-number-long_power.false)) (omega arith) in
    let same : c.args.number * c.long_power-2.result ≡ c.args.number * 10 ^ c.args.zeros = ap (λ (x : ℕ). c.args.number * x) c.long_power-2.ensures in
    omega (arith, below, same)

pub returns-clause-small : goal.returns-clause-small
returns-clause-small c =
    let below =
    shifted_below c.args.number (38 - c.args.zeros) c.args.zeros 38 (omega (arith, c.long_power.ensures, c.if-number-long_power.false)) (omega arith) in
    let same : c.args.number * c.long_power-2.result ≡ c.args.number * 10 ^ c.args.zeros = ap (λ (x : ℕ). c.args.number * x) c.long_power-2.ensures in
    omega (arith, below, same)
