use Rattle.run_ends.specs.RunAnswers.{runs_of}
use Rattle.run_ends.specs.promise.RunRules.{runs_fault}
use Rattle.run_ends.proofs.Holding.{runs_hold, none_of}
use Rattle.run_ends.proofs.laws.runs_hold.Goals as goal

pub returns : goal.returns
returns c =
    let u = runs_of c.args.typed.now in
    runs_hold c.faultless_roots.ensures.own c.faultless_roots.ensures.children u c.args.array.now
    (none_of (runs_fault u c.args.array.now) c.requires)
