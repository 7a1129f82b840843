use Rattle.std.proofs.Common.{subst}
use Rattle.run_model.specs.Diagnostics.{Says, line_of}
use Rattle.run_model.proofs.diagnostics.tell_fault.Goals as goal

pub returns-in-Text : goal.returns-in-Text
returns-in-Text g c =
    subst (λ t. Says c.tell_said.result (g.E.Sink.taken c.args.errs.now) (g.E.Sink.taken c.tell_said.new.errs)
    (g.E.Sink.faults c.args.errs.now) (g.E.Sink.faults c.tell_said.new.errs) (line_of t))
    c.in-Text.ensures c.tell_said.ensures

pub returns-in-Tree : goal.returns-in-Tree
returns-in-Tree g c =
    subst (λ t. Says c.tell_tree.result (g.E.Sink.taken c.args.errs.now) (g.E.Sink.taken c.tell_tree.new.errs)
    (g.E.Sink.faults c.args.errs.now) (g.E.Sink.faults c.tell_tree.new.errs) (line_of t))
    c.in-Tree.ensures c.tell_tree.ensures
