use Rattle.std.proofs.Common.{rules, ◌+◌, List, [], ◌∷◌, Option, sym, ap, arith, subst}
use Rattle.buf_block.specs.declared.hold.BufView.{BufView}
use Rattle.raw_array.specs.promise.Members.{holds_of}
use Rattle.raw_array.specs.View.{buffers_of}
use Rattle.raw_array.proofs.Buffers.{holds_of-append}
use Rattle.tree_text.specs.Cursors.{BuffersRead}
use Rattle.tree_text.proofs.ArraySteps.{left_buffers, one_buffer, buffer_stops}
use Rattle.tree_text.proofs.buffers.buffers.Goals as goal

pub buffer-requires-clause-room : goal.buffer-requires-clause-room
buffer-requires-clause-room c =
    let all = left_buffers c.args.bytes.now c.args.cursor c.loop.here c.loop.counter (buffers_of c.loop.made.items) c.loop.invariant.read in
    omega (arith, all, c.loop.invariant.units, c.requires.room)

pub returns-in-Err-clause-fault : goal.returns-in-Err-clause-fault
returns-in-Err-clause-fault c =
    buffer_stops c.args.bytes.now c.args.cursor c.loop.here c.args.count c.loop.counter (buffers_of c.loop.made.items) c.in-Err.fault c.requires.cursor
    c.loop.invariant.read c.loop-test.true c.in-Err.ensures.fault

pub loop-preserved : goal.loop-preserved
loop-preserved c =
    let more = c.in_ok-made-in-Ok.ensures.more in
    let made = c.loop.made.items in
    let view = c.in-Ok.view in
    let cost = ap (λ (vs : List (Option BufView)). holds_of (buffers_of vs)) more in
    let sum = holds_of-append made (view ∷ []) in
    record {
      read = subst (λ (vs : List (Option BufView)). BuffersRead c.args.bytes.now c.args.cursor c.in-Ok.next (c.loop.counter + 1) (buffers_of vs)) (sym more)
          (one_buffer c.args.bytes.now c.args.cursor c.loop.here c.in-Ok.next c.loop.counter made view c.loop.invariant.read c.in-Ok.ensures.read);
      units = omega (arith, cost, sum, c.loop.invariant.units, c.in-Ok.ensures.units, c.in_ok-made-in-Ok.ensures.units);
      blocks = omega (arith, cost, sum, c.loop.invariant.blocks, c.in-Ok.ensures.blocks, c.in_ok-made-in-Ok.ensures.blocks);
      nodes = search rules;
    }
