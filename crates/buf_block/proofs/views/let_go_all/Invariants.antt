use Rattle.std.proofs.Common.{◌≡◌, ◌+◌, count_by, is_some, length}
use Rattle.buf_block.proofs.views.let_go_all.Given as goal

abbrev pub invariant-loop-view : goal.invariant-loop-view
invariant-loop-view l = record {
  units : l.pass.units + count_by is_some l.views.items ≡ l.initial.pass.units + count_by is_some l.initial.views.items;
  blocks : l.pass.blocks ≡ l.initial.pass.blocks;
  nodes : l.pass.nodes ≡ l.initial.pass.nodes;
}

abbrev pub decreases-loop-view : goal.decreases-loop-view
decreases-loop-view l = length l.views.items
