use Rattle.std.proofs.Common.{◌∙◌, length}
use Rattle.std.proofs.lemmas.Result.{IfOk-weaker}
use Rattle.data_types.specs.promise.TypedView.{typed_of}
use Rattle.fan_out.proofs.Collecting.{gathered, last_done, others_done, read_all}
use Rattle.fan_out.proofs.run.run_and_collect.Goals as goal

pub run_all-requires-clause-workers : goal.run_all-requires-clause-workers
run_all-requires-clause-workers g c κs within = c.requires.workers

pub run_all-requires-clause-types : goal.run_all-requires-clause-types
run_all-requires-clause-types g c κs within = c.requires.types

pub run_all-requires-clause-pieces : goal.run_all-requires-clause-pieces
run_all-requires-clause-pieces g c κs within = c.requires.pieces

pub returns-clause-len : goal.returns-clause-len
returns-clause-len g c = c.collect.ensures.kept.0 ∙ c.run_all.auto.pieces

pub returns-clause-released : goal.returns-clause-released
returns-clause-released g c =
    let typed = typed_of c.args.typed.now in
    others_done (g.J.Job.gives c.args.job.now typed) (g.J.Job.reads c.args.job.now) typed c.args.pieces.now c.run_all.new.pieces c.run_all.ensures
    c.collect.new.pieces c.args.cost c.run_all.auto.pieces c.collect.ensures.kept c.requires.unspent

pub returns-clause-last : goal.returns-clause-last
returns-clause-last g c d =
    let typed = typed_of c.args.typed.now in
    (last_done (g.J.Job.gives c.args.job.now typed) (g.J.Job.reads c.args.job.now) typed c.args.pieces.now c.run_all.new.pieces c.run_all.ensures
    c.collect.new.pieces c.args.cost c.run_all.auto.pieces c.collect.ensures.kept c.requires.unspent c.requires.workers.0 d).0

pub returns-clause-empty : goal.returns-clause-empty
returns-clause-empty g c d =
    let typed = typed_of c.args.typed.now in
    (last_done (g.J.Job.gives c.args.job.now typed) (g.J.Job.reads c.args.job.now) typed c.args.pieces.now c.run_all.new.pieces c.run_all.ensures
    c.collect.new.pieces c.args.cost c.run_all.auto.pieces c.collect.ensures.kept c.requires.unspent c.requires.workers.0 d).1

pub returns-clause-answers : goal.returns-clause-answers
returns-clause-answers g c rows ready =
    let typed = typed_of c.args.typed.now in
    let gives = g.J.Job.gives c.args.job.now typed in
    let all = gathered gives (g.J.Job.reads c.args.job.now) typed c.args.pieces.now c.run_all.new.pieces c.run_all.ensures rows c.args.cost ready in
    IfOk-weaker c.collect.result _ _ (λ v got. all (length c.run_all.new.pieces) c.run_all.auto.pieces v.items got) c.collect.ensures.answers

pub returns-clause-read : goal.returns-clause-read
returns-clause-read g c rows ready d =
    let typed = typed_of c.args.typed.now in
    let all = read_all (g.J.Job.gives c.args.job.now typed) (g.J.Job.reads c.args.job.now) typed c.args.pieces.now c.run_all.new.pieces c.run_all.ensures
    rows c.args.cost ready in
    IfOk-weaker c.collect.result _ _ (λ v got. all (length c.run_all.new.pieces) c.run_all.auto.pieces v.items got d) c.collect.ensures.answers
