use Rattle.std.proofs.Common.{rules}
use Rattle.std.specs.Prelude.{IfOk, IfErr}
use Rattle.run_ends.specs.promise.RunSchemas.{RunsOf}
use Rattle.run_ends.specs.RunAnswers.{runs_of, IsRunsFault}
use Rattle.run_ends.proofs.OneRuns.{gives_runs}
use Rattle.run_ends.proofs.read.read_runs.Goals as goal

pub returns-clause-only : goal.returns-clause-only
returns-clause-only c =
    let schema = c.args.schema.now in
    let found : IfOk c.runs_kinds.result (λ typed. RunsOf schema (runs_of typed)) = search rules in
    let fault : IfErr c.runs_kinds.result (IsRunsFault schema) = search rules in
    gives_runs c.one_runs_answer.ensures schema c.runs_kinds.result found fault
