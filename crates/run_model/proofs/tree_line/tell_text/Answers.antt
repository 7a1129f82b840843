use Rattle.std.proofs.Common.{subst, sym}
use Rattle.tree_text.specs.promise.FaultTexts.{text_fault_text}
use Rattle.run_model.specs.Diagnostics.{Says, line_of}
use Rattle.run_model.proofs.TreeLines.{text-line}
use Rattle.run_model.proofs.tree_line.tell_text.Goals as goal

pub returns-in-Line : goal.returns-in-Line
returns-in-Line g c =
    subst (λ f. Says c.say.result (g.E.Sink.taken c.args.errs.now) (g.E.Sink.taken c.say.new.errs)
    (g.E.Sink.faults c.args.errs.now) (g.E.Sink.faults c.say.new.errs) (line_of (text_fault_text f)))
    (sym c.in-Line.is)
    (subst (Says c.say.result (g.E.Sink.taken c.args.errs.now) (g.E.Sink.taken c.say.new.errs)
    (g.E.Sink.faults c.args.errs.now) (g.E.Sink.faults c.say.new.errs))
    (text-line c.in-Line.line c.format.result.now c.format.ensures.text) c.say.ensures)

pub returns-in-TooManyLines : goal.returns-in-TooManyLines
returns-in-TooManyLines g c =
    subst (λ f. Says c.say-in-TooManyLines.result (g.E.Sink.taken c.args.errs.now) (g.E.Sink.taken c.say-in-TooManyLines.new.errs)
    (g.E.Sink.faults c.args.errs.now) (g.E.Sink.faults c.say-in-TooManyLines.new.errs) (line_of (text_fault_text f)))
    (sym c.in-TooManyLines.is) c.say-in-TooManyLines.ensures

pub returns-in-NoMemory : goal.returns-in-NoMemory
returns-in-NoMemory g c =
    subst (λ f. Says c.say-in-NoMemory.result (g.E.Sink.taken c.args.errs.now) (g.E.Sink.taken c.say-in-NoMemory.new.errs)
    (g.E.Sink.faults c.args.errs.now) (g.E.Sink.faults c.say-in-NoMemory.new.errs) (line_of (text_fault_text f)))
    (sym c.in-NoMemory.is) c.say-in-NoMemory.ensures
