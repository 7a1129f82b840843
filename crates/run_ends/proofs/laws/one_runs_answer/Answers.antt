use Rattle.run_ends.proofs.OneRuns.{one_runs}
use Rattle.run_ends.proofs.laws.one_runs_answer.Goals as goal

pub returns : goal.returns
returns c = one_runs c.one_root_answer.ensures.own c.one_root_answer.ensures.kids
