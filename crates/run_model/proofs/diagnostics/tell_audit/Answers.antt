use Rattle.std.proofs.Common.{subst}
use Rattle.run_model.specs.Diagnostics.{Says}
use Rattle.run_model.proofs.FaultLines.{audit-pieces}
use Rattle.run_model.proofs.diagnostics.tell_audit.Goals as goal

pub returns : goal.returns
returns g c =
    subst (Says c.say.result (g.E.Sink.taken c.args.errs.now) (g.E.Sink.taken c.say.new.errs) (g.E.Sink.faults c.args.errs.now)
    (g.E.Sink.faults c.say.new.errs))
    (audit-pieces c.format-blocks.result.now c.format-nodes.result.now c.args.audit.now c.format-blocks.ensures.text c.format-nodes.ensures.text) c.say.ensures
