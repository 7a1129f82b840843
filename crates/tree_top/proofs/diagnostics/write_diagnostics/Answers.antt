use Rattle.std.proofs.Common.{◌∙◌, ap, subst, sym}
use Rattle.tree_check.specs.promise.Runs.{Took}
use Rattle.tree_top.specs.promise.Diagnostics.{status_line}
use Rattle.tree_top.proofs.Lines.{took}
use Rattle.tree_top.proofs.diagnostics.write_diagnostics.Goals as goal

pub returns-in-Some : goal.returns-in-Some
returns-in-Some g c =
    let told = c.write_all.ensures in
    subst (Took (g.E.Sink.taken c.args.errs.now) (g.E.Sink.taken c.write_all.new.sink) (g.E.Sink.faults c.args.errs.now)
    (g.E.Sink.faults c.write_all.new.sink)) (c.line_of.ensures ∙ ap status_line (sym c.in-Some.is))
    (took c.write_all.result _ _ _ _ c.line_of.result.now told.all told.failed told.within told.prefix)
