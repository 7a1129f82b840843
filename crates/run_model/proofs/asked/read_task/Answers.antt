use Rattle.std.proofs.Common.{◌≡◌, ◌∙◌, IfOk, ap, subst, sym}
use Rattle.run_model.specs.Words.{options_of}
use Rattle.run_model.specs.promise.Answer.{meant_by}
use Rattle.run_model.specs.Outcomes.{IfTable, asked_of}
use Rattle.run_model.proofs.Meant.{meant-only}
use Rattle.run_model.proofs.asked.read_task.Goals as goal

pub returns-in-None-clause-only : goal.returns-in-None-clause-only
returns-in-None-clause-only c =
    let options = options_of c.args.options.now in
    meant-only options.check options.selftest options options (asked_of c.read_table.result) c.if-options.false
    (ap (λ r. meant_by r options) (sym c.in-None.is)) c.read_table.ensures.only

pub returns-in_ok-chain-in-Some-clause-only : goal.returns-in_ok-chain-in-Some-clause-only
returns-in_ok-chain-in-Some-clause-only c =
    let options = options_of c.args.options.now in
    meant-only options.check options.selftest options (options_of c.in_ok-chain-in-Some.chain) (asked_of c.read_table-in-Some.result) c.if-options.false
    (c.in_ok-chain-in-Some.ensures.chain ∙ ap (λ r. meant_by r options) (sym c.in-Some.is)) c.read_table-in-Some.ensures.only

pub returns-in_ok-chain-in-Some-clause-as_asked : goal.returns-in_ok-chain-in-Some-clause-as_asked
returns-in_ok-chain-in-Some-clause-as_asked c =
    subst (λ n. IfOk c.read_table-in-Some.result (λ t. IfTable t (λ r. r.workers.count ≡ n))) c.in_ok-chain-in-Some.ensures.workers c.read_table-in-Some.ensures.as_asked

pub returns-in_ok-chain-in-Some-clause-ahead_as_asked : goal.returns-in_ok-chain-in-Some-clause-ahead_as_asked
returns-in_ok-chain-in-Some-clause-ahead_as_asked c =
    subst (λ n. IfOk c.read_table-in-Some.result (λ t. IfTable t (λ r. r.ahead ≡ n))) c.in_ok-chain-in-Some.ensures.ahead
    c.read_table-in-Some.ensures.ahead_as_asked
