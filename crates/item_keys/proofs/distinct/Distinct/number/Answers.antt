use Rattle.std.proofs.Common.{ℕ, List, not, sym, ap, subst}
use Rattle.item_keys.specs.Distinct.{Numbers}
use Rattle.item_keys.proofs.Found.{at-has, at-number}
use Rattle.item_keys.proofs.Texts.{with-old}
use Rattle.item_keys.proofs.distinct.Distinct.number.Goals as goal

pub returns-in-At-clause-number : goal.returns-in-At-clause-number
returns-in-At-clause-number c = λ texts holds.
    at-number c.args.self.now texts c.args.text.now c.in-At.number holds (c.in-At.ensures texts holds)

pub returns-in-At-clause-new : goal.returns-in-At-clause-new
returns-in-At-clause-new c = λ texts holds.
    sym (ap not (at-has c.args.self.now texts c.args.text.now c.in-At.number holds (c.in-At.ensures texts holds)))

pub returns-in-At-clause-texts : goal.returns-in-At-clause-texts
returns-in-At-clause-texts c = λ texts holds.
    subst (λ (ts : List (List ℕ)). Numbers c.args.self.now ts)
    (with-old texts c.args.text.now (at-has c.args.self.now texts c.args.text.now c.in-At.number holds (c.in-At.ensures texts holds))) holds
