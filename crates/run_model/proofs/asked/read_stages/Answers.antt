use Rattle.std.proofs.Common.{rules, ◌≡◌, ◌⊎◌, ◌+◌, Err, arith, sym, subst}
use Rattle.run_model.specs.promise.Answer.{stages_from}
use Rattle.run_model.specs.declared.fault.RunFault.TheVariants as run
use Rattle.run_model.proofs.CommandLineStages.{ReadTo, read-fault, read-more, spelled}
use Rattle.run_model.proofs.asked.read_stages.Goals as goal

pub returns-in_err-stage-clause-fault : goal.returns-in_err-stage-clause-fault
returns-in_err-stage-clause-fault c =
    let texts = c.args.texts.now in
    let fault = c.in_err-stage.field-0.0 in
    let told : (fault ≡ run.NoMemory) ⊎ (stages_from 1 (spelled texts) ≡ Err fault) =
    read-fault texts c.loop-place.place c.loop-place.stages.items c.loop-place.invariant _ (omega arith) fault c.in_err-stage.ensures.fault in
    search (rules, told)

pub loop-place-preserved : goal.loop-place-preserved
loop-place-preserved c =
    let texts = c.args.texts.now in
    subst (ReadTo texts (c.loop-place.place + 1)) (sym c.in-Ok.ensures.items)
    (read-more texts c.loop-place.place c.loop-place.stages.items c.loop-place.invariant _ (omega arith) c.in_ok-stage.stage c.in_ok-stage.ensures.found)
