use Rattle.std.proofs.Common.{◌∙◌, ◌++◌, ap, subst}
use Rattle.run_model.specs.NumberedTexts.{digits_of, numbered_text}
use Rattle.run_model.specs.Diagnostics.{Says}
use Rattle.run_model.proofs.FaultLines.{line-pieces}
use Rattle.run_model.proofs.diagnostics.tell_said.Goals as goal

pub returns : goal.returns
returns g c =
    let said = c.args.said.now in
    subst (Says c.say.result (g.E.Sink.taken c.args.errs.now) (g.E.Sink.taken c.say.new.errs) (g.E.Sink.faults c.args.errs.now)
    (g.E.Sink.faults c.say.new.errs))
    (line-pieces said.front.now c.digits-first.result.now said.middle.now c.digits-second.result.now said.back.now (numbered_text c.args.said.now)
    (ap (λ d. said.front.now ++ (d ++ (said.middle.now ++ (c.digits-second.result.now ++ said.back.now)))) c.digits-first.ensures
    ∙ ap (λ d. said.front.now ++ (digits_of said.first ++ (said.middle.now ++ (d ++ said.back.now)))) c.digits-second.ensures)) c.say.ensures
