use Rattle.std.proofs.Common.{◌≡◌, ◌+◌, ◌≤◌, map, length, reverse}
use Rattle.data_types.specs.promise.TypedView.{typed_of}
use Rattle.foreign_array.specs.Kept.{AreKept, tree_in, units_of_all}
use Rattle.foreign_array.proofs.Coming.{Coming}
use Rattle.foreign_array.proofs.draining.drain.Given as goal

-- the chunks that are left are last first; what came of those before them
abbrev pub invariant-loop-chunk : goal.invariant-loop-chunk
invariant-loop-chunk g l = record {
  coming : Coming (typed_of l.fn.typed) (map tree_in l.fn.chunks.items) (map tree_in (reverse l.chunks.items)) l.number l.shown
      (g.V.Visit.seen l.initial.visit) (g.V.Visit.seen l.visit);
  units : l.pass.units + units_of_all g.O.Owner.owes (reverse l.chunks.items) ≡ l.initial.pass.units + units_of_all g.O.Owner.owes l.fn.chunks.items;
  blocks : l.pass.blocks ≡ l.initial.pass.blocks;
  nodes : l.pass.nodes ≡ l.initial.pass.nodes;
  live : AreKept (reverse l.chunks.items);
  few : l.number + length l.chunks.items ≤ length l.fn.chunks.items;
}

abbrev pub decreases-loop-chunk : goal.decreases-loop-chunk
decreases-loop-chunk g l = goal.left-loop-chunk g l
