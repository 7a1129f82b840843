use Rattle.std.proofs.Common.{◌≡◌, ◌+◌}
use Rattle.unit_pass.specs.promise.Tally.{risen}
use Rattle.raw_array.specs.promise.Members.{holds_of}
use Rattle.raw_array.specs.View.{buffers_of}
use Rattle.tree_text.specs.Cursors.{BuffersRead}
use Rattle.tree_text.proofs.buffers.buffers.Given as goal

-- the buffers so far were read
abbrev pub invariant-loop : goal.invariant-loop
invariant-loop l = record {
  read : BuffersRead l.bytes l.fn.cursor l.here l.counter (buffers_of l.made.items);
  units : l.pass.units + holds_of (buffers_of l.made.items) ≡ l.initial.pass.units;
  blocks : l.pass.blocks ≡ risen l.initial.pass.blocks (holds_of (buffers_of l.made.items));
  nodes : l.pass.nodes ≡ l.initial.pass.nodes;
}
