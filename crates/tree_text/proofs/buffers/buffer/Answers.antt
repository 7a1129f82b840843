use Rattle.std.proofs.Common.{subst}
use Rattle.tree_text.specs.declared.node_line.BufferLine.{BufferLine}
use Rattle.tree_text.specs.Cursors.{BufferLineRead}
use Rattle.tree_text.specs.LineView.{buffer_told}
use Rattle.tree_text.proofs.ArraySteps.{absent_is, present_is}
use Rattle.tree_text.proofs.buffers.buffer.Goals as goal

pub returns-in-Ok-clause-read : goal.returns-in-Ok-clause-read
returns-in-Ok-clause-read c =
    let told = subst (λ (x : BufferLine). BufferLineRead c.args.bytes.now c.args.cursor c.in_ok-told.next (buffer_told x)) c.in-Present.is
    c.in_ok-told.ensures.read in
    present_is c.args.bytes.now c.args.cursor c.in_ok-told.next c.in-Present.content.items c.in-Ok.view told c.in-Ok.ensures.view

pub returns-in-Absent-clause-read : goal.returns-in-Absent-clause-read
returns-in-Absent-clause-read c =
    absent_is c.args.bytes.now c.args.cursor c.in_ok-told.next
    (subst (λ (x : BufferLine). BufferLineRead c.args.bytes.now c.args.cursor c.in_ok-told.next (buffer_told x)) c.in-Absent.is c.in_ok-told.ensures.read)
