use Rattle.std.proofs.Common.{subst}
use Rattle.layout_check.specs.Scans.{IsRun}
use Rattle.layout_check.proofs.TextRuns.{marks-set}
use Rattle.layout_check.proofs.marks.note.Goals as goal

pub loop-next-init : goal.loop-next-init
loop-next-init c = λ own is old. old

pub loop-next-preserved : goal.loop-next-preserved
loop-next-preserved c = λ own is old.
    marks-set own _ _ _ (c.loop-next.invariant own is old) (subst (λ d. IsRun d c.rest_of.result) is c.rest_of.ensures)
