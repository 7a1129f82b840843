use Rattle.std.proofs.Common.{arith, rules}
use Rattle.std.proofs.lemmas.Int.{ints}
use Rattle.total_stage.proofs.Adding.{joined, totals-within}
use Rattle.total_stage.proofs.numbers.Totals.join.Goals as goal

pub overflow_add-self-2 : goal.overflow_add-self-2
overflow_add-self-2 c =
    let few = c.requires.few in
    let one = totals-within c.args.self.now few.0 few.2 in
    let other = totals-within c.args.other few.1 few.3 in
    omega (arith, ints, one.low, one.high, other.low, other.high, few.4)

pub returns : goal.returns
returns c = λ numbers others are more.
    let few = c.requires.few in
    let one = totals-within c.args.self.now few.0 few.2 in
    let other = totals-within c.args.other few.1 few.3 in
    joined c.args.self.now c.args.other _ numbers others are more (omega arith)
    (omega (arith, ints, one.low, one.high, other.low, other.high, few.4))
    (search (rules, c.lesser-self.ensures)) (search (rules, c.greater-self.ensures))
