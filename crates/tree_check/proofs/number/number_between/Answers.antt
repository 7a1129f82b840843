use Rattle.std.proofs.Common.{rules}
use Rattle.tree_check.proofs.Numbers.{between, no_number}
use Rattle.tree_check.proofs.number.number_between.Goals as goal

pub returns-in-Ok : goal.returns-in-Ok
returns-in-Ok c =
    between c.args.text.now c.args.least c.args.most (search rules) c.parse.result c.parse.ensures.value.0 c.in-Ok.number c.in-Ok.is c.if-least-number.true
    c.if-number-most.true

pub returns-in-Err : goal.returns-in-Err
returns-in-Err c =
    no_number c.args.text.now c.args.least c.args.most (search rules) c.parse.result c.parse.ensures.value.0 c.in-Err.field-0 c.in-Err.is (search rules)
