use Rattle.std.proofs.Common.{subst, sym}
use Rattle.tree_check.specs.promise.FaultTexts.{tree_fault_text}
use Rattle.run_model.specs.Diagnostics.{Says, line_of}
use Rattle.run_model.proofs.tree_line.tell_tree.Goals as goal

pub returns-in-Text : goal.returns-in-Text
returns-in-Text g c =
    subst (λ f. Says c.tell_text.result (g.E.Sink.taken c.args.errs.now) (g.E.Sink.taken c.tell_text.new.errs)
    (g.E.Sink.faults c.args.errs.now) (g.E.Sink.faults c.tell_text.new.errs) (line_of (tree_fault_text f)))
    (sym c.in-Text.is) c.tell_text.ensures

pub returns-in-Schema : goal.returns-in-Schema
returns-in-Schema g c =
    subst (λ f. Says c.tell_schema.result (g.E.Sink.taken c.args.errs.now) (g.E.Sink.taken c.tell_schema.new.errs)
    (g.E.Sink.faults c.args.errs.now) (g.E.Sink.faults c.tell_schema.new.errs) (line_of (tree_fault_text f)))
    (sym c.in-Schema.is) c.tell_schema.ensures

pub returns-in-Layout : goal.returns-in-Layout
returns-in-Layout g c =
    subst (λ f. Says c.tell_layout.result (g.E.Sink.taken c.args.errs.now) (g.E.Sink.taken c.tell_layout.new.errs)
    (g.E.Sink.faults c.args.errs.now) (g.E.Sink.faults c.tell_layout.new.errs) (line_of (tree_fault_text f)))
    (sym c.in-Layout.is) c.tell_layout.ensures
