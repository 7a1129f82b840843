use Rattle.layout_check.proofs.marks.note_buffer.Goals as goal

pub loop-place-init : goal.loop-place-init
loop-place-init c = λ own is old. old

pub loop-place-preserved : goal.loop-place-preserved
loop-place-preserved c = λ own is old. c.note-next.ensures own is (c.loop-place.invariant own is old)

pub returns : goal.returns
returns c = c.loop-place.invariant
