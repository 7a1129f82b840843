use Rattle.std.proofs.Common.{arith, rules}
use Rattle.std.proofs.lemmas.Int.{ints}
use Rattle.total_stage.proofs.Adding.{added, totals-within}
use Rattle.total_stage.proofs.numbers.Totals.add.Goals as goal

pub overflow_add-self-2 : goal.overflow_add-self-2
overflow_add-self-2 c =
    let t = c.args.self.now in
    let within = totals-within t c.requires.few.0 c.requires.few.1 in
    omega (arith, ints, within.low, within.high, c.requires.few.2, c.requires.small.low, c.requires.small.high)

pub returns : goal.returns
returns c = λ numbers are.
    let t = c.args.self.now in
    let within = totals-within t c.requires.few.0 c.requires.few.1 in
    added t _ c.args.number numbers are c.requires.small (omega arith)
    (omega (arith, ints, within.low, within.high, c.requires.few.2, c.requires.small.low, c.requires.small.high))
    (search (rules, c.lesser-self.ensures)) (search (rules, c.greater-self.ensures))
