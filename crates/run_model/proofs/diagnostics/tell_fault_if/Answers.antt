use Rattle.std.proofs.Common.{subst, sym}
use Rattle.run_model.specs.promise.Diagnostics.{fault_line}
use Rattle.run_model.specs.Diagnostics.{Says}
use Rattle.run_model.proofs.diagnostics.tell_fault_if.Goals as goal

pub returns-in-Some : goal.returns-in-Some
returns-in-Some g c =
    subst (λ f. Says c.tell_fault.result (g.E.Sink.taken c.args.errs.now) (g.E.Sink.taken c.tell_fault.new.errs) (g.E.Sink.faults c.args.errs.now)
    (g.E.Sink.faults c.tell_fault.new.errs) (fault_line f))
    (sym c.in-Some.is) c.tell_fault.ensures
