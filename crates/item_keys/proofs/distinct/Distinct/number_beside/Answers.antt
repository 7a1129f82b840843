use Rattle.std.proofs.Common.{not, sym, ap, subst}
use Rattle.item_keys.specs.Distinct.{Numbers}
use Rattle.item_keys.proofs.Found.{at-number, at-has, tree-found}
use Rattle.item_keys.proofs.Texts.{with-old}
use Rattle.item_keys.proofs.distinct.Distinct.number_beside.Goals as goal

pub returns-in-Some-clause-number : goal.returns-in-Some-clause-number
returns-in-Some-clause-number c = λ texts holds.
    let is = tree-found c.args.self.now.beside c.second_hash_of.result c.args.text c.in-Some.number.now c.second_hash_of.ensures c.in-Some.ensures.value in
    at-number c.args.self.now texts c.args.text.now c.in-Some.number.now holds (holds.beside c.args.text c.in-Some.number.now is)

pub returns-in-Some-clause-new : goal.returns-in-Some-clause-new
returns-in-Some-clause-new c = λ texts holds.
    let is = tree-found c.args.self.now.beside c.second_hash_of.result c.args.text c.in-Some.number.now c.second_hash_of.ensures c.in-Some.ensures.value in
    sym (ap not (at-has c.args.self.now texts c.args.text.now c.in-Some.number.now holds (holds.beside c.args.text c.in-Some.number.now is)))

pub returns-in-Some-clause-texts : goal.returns-in-Some-clause-texts
returns-in-Some-clause-texts c = λ texts holds.
    let is = tree-found c.args.self.now.beside c.second_hash_of.result c.args.text c.in-Some.number.now c.second_hash_of.ensures c.in-Some.ensures.value in
    subst (λ ts. Numbers c.args.self.now ts)
    (with-old texts c.args.text.now
    (at-has c.args.self.now texts c.args.text.now c.in-Some.number.now holds (holds.beside c.args.text c.in-Some.number.now is))) holds
