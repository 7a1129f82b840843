use Rattle.std.proofs.Common.{◌≡◌, Some, IfErr, arith, subst}
use Rattle.run_model.specs.Outcomes.{request_of}
use Rattle.stage_chain.specs.promise.Chains.{ShowsFirst, ShowsLinks}
use Rattle.csv_write.specs.Faults.{IfRow}
use Rattle.pipe_top.proofs.Begun.{begun-alone, begun-counts, begun-flat, begun-kept, begun-links, begun-live, begun-lawful, begun-plan, begun-text, begun-told, begun-fresh, told-behind}
use Rattle.pipe_top.proofs.answer.answer_begun.Goals as goal

pub drive_steps-requires-clause-live : goal.drive_steps-requires-clause-live
drive_steps-requires-clause-live g c = λ _ _. begun-live (request_of c.args.request.now) c.requires.begun.0 (g.S.ArrayStream.state c.args.source) c.args.plan c.requires.begun.1

pub drive_steps-requires-clause-lawful : goal.drive_steps-requires-clause-lawful
drive_steps-requires-clause-lawful g c = λ _ _. begun-lawful (request_of c.args.request.now) c.requires.begun.0 (g.S.ArrayStream.state c.args.source) c.args.plan c.requires.begun.1

pub drive_steps-requires-clause-no_joints : goal.drive_steps-requires-clause-no_joints
drive_steps-requires-clause-no_joints g c = λ _ _. begun-alone (request_of c.args.request.now) c.requires.begun.0 (g.S.ArrayStream.state c.args.source) c.args.plan c.requires.begun.1

pub drive_steps-requires-clause-plan : goal.drive_steps-requires-clause-plan
drive_steps-requires-clause-plan g c = λ _ _. begun-plan (request_of c.args.request.now) c.requires.begun.0 (g.S.ArrayStream.state c.args.source) c.args.plan c.requires.begun.1

pub drive_steps-requires-clause-flat : goal.drive_steps-requires-clause-flat
drive_steps-requires-clause-flat g c = λ _ _. begun-flat (request_of c.args.request.now) c.requires.begun.0 (g.S.ArrayStream.state c.args.source) c.args.plan c.requires.begun.1

pub drive_steps-requires-clause-supply : goal.drive_steps-requires-clause-supply
drive_steps-requires-clause-supply g c = λ _ _. omega (arith, begun-kept (request_of c.args.request.now) c.requires.begun.0 (g.S.ArrayStream.state c.args.source) c.args.plan c.requires.begun.1, c.args.pass.now.supply)

pub returns-in-Ok-clause-text : goal.returns-in-Ok-clause-text
returns-in-Ok-clause-text g c = λ records begun.
    begun-text (request_of c.args.request.now) records (g.S.ArrayStream.state c.args.source) c.args.plan begun c.as_slice-mark.result.now _
    c.batches_give_the_whole.ensures c.in-Ok.ensures.ends c.as_slice-mark.ensures c.in-Ok.ensures.text

pub returns-in-Ok-clause-units : goal.returns-in-Ok-clause-units
returns-in-Ok-clause-units g c = omega (arith, begun-kept (request_of c.args.request.now) c.requires.begun.0 (g.S.ArrayStream.state c.args.source) c.args.plan c.requires.begun.1, c.drive_steps.ensures.units)

pub returns-in-Ok-clause-counts : goal.returns-in-Ok-clause-counts
returns-in-Ok-clause-counts g c = λ records begun.
    begun-counts (request_of c.args.request.now) records (g.S.ArrayStream.state c.args.source) c.args.plan begun c.args.pass.now c.drive_steps.new.pass c.in-Ok.ensures.counts

pub returns-in-Ok-clause-shows : goal.returns-in-Ok-clause-shows
returns-in-Ok-clause-shows g c = λ records begun.
    subst (λ links. ShowsLinks links (g.T.Tap.seen c.args.tap.now) (g.T.Tap.seen c.drive_steps.new.tap))
    (begun-links (request_of c.args.request.now) records (g.S.ArrayStream.state c.args.source) c.args.plan begun) c.in-Ok.ensures.shows

pub returns-in-Err-clause-fault : goal.returns-in-Err-clause-fault
returns-in-Err-clause-fault g c = λ records begun.
    begun-told (request_of c.args.request.now) records (g.S.ArrayStream.state c.args.source) c.args.plan begun c.in-Err.fault _ c.run_fault.ensures
    (subst (λ r. IfErr r (λ e. IfRow e (λ row. (g.S.ArrayStream.state c.args.source).ending ≡ Some row))) c.in-Err.is c.drive_steps.ensures.row)

pub returns-in-Err-clause-units : goal.returns-in-Err-clause-units
returns-in-Err-clause-units g c = omega (arith, begun-kept (request_of c.args.request.now) c.requires.begun.0 (g.S.ArrayStream.state c.args.source) c.args.plan c.requires.begun.1, c.drive_steps.ensures.units)

pub returns-in-Err-clause-shows_some : goal.returns-in-Err-clause-shows_some
returns-in-Err-clause-shows_some g c = λ records begun.
    subst (λ links. ShowsFirst links (g.T.Tap.seen c.args.tap.now) (g.T.Tap.seen c.drive_steps.new.tap))
    (begun-links (request_of c.args.request.now) records (g.S.ArrayStream.state c.args.source) c.args.plan begun) c.in-Err.ensures.shows_some

pub returns-in-Err-clause-behind : goal.returns-in-Err-clause-behind
returns-in-Err-clause-behind g c = λ records begun behind.
    let request = request_of c.args.request.now in
    let source = g.S.ArrayStream.state c.args.source in
    let fresh = begun-fresh request records source c.args.plan begun in (
      begun-counts request records source c.args.plan begun c.args.pass.now c.drive_steps.new.pass
          (told-behind c.drive_steps.result c.in-Err.fault _ _ c.in-Err.is c.run_fault.ensures (c.drive_steps.ensures.refused_counts fresh) behind),
      subst (λ links. ShowsLinks links (g.T.Tap.seen c.args.tap.now) (g.T.Tap.seen c.drive_steps.new.tap))
          (begun-links request records source c.args.plan begun)
          (told-behind c.drive_steps.result c.in-Err.fault _ _ c.in-Err.is c.run_fault.ensures (c.drive_steps.ensures.refused_shows fresh) behind),
    )
