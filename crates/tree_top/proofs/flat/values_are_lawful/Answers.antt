use Rattle.run_ends.specs.RunAnswers.{runs_of}
use Rattle.run_ends.specs.RunHolds.{RunsHold}
use Rattle.run_ends.proofs.Holding.{runs_hold}
use Rattle.tree_top.proofs.flat.values_are_lawful.Goals as goal

pub returns-clause-children : goal.returns-clause-children
returns-clause-children c =
    let u = runs_of c.args.typed.now in
    let array = c.args.array.now in
    let holds : RunsHold u array = runs_hold c.faultless_roots.ensures.own c.faultless_roots.ensures.children u array c.requires in
    holds.own.children_are

pub returns-clause-values : goal.returns-clause-values
returns-clause-values c =
    let u = runs_of c.args.typed.now in
    let array = c.args.array.now in
    let holds : RunsHold u array = runs_hold c.faultless_roots.ensures.own c.faultless_roots.ensures.children u array c.requires in
    holds.values
