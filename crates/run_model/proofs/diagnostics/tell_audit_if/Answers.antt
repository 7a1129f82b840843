use Rattle.std.proofs.Common.{subst, sym}
use Rattle.run_model.specs.promise.Diagnostics.{audit_if}
use Rattle.run_model.specs.Diagnostics.{Says}
use Rattle.run_model.proofs.diagnostics.tell_audit_if.Goals as goal

pub returns-then-wanted : goal.returns-then-wanted
returns-then-wanted g c =
    subst (λ w. Says c.tell_audit.result (g.E.Sink.taken c.args.errs.now) (g.E.Sink.taken c.tell_audit.new.errs) (g.E.Sink.faults c.args.errs.now)
    (g.E.Sink.faults c.tell_audit.new.errs) (audit_if w c.args.audit.now))
    (sym c.if-wanted.true) c.tell_audit.ensures
