use Rattle.std.proofs.Common.{◌≡◌, ◌+◌, ◌*◌, ◌≤◌, length, take, vec_len}
use Rattle.std.specs.Vec.{vec_capacity}
use Rattle.tree_model.specs.promise.TreeData.{trees}
use Rattle.unit_pass.specs.promise.Tally.{risen}
use Rattle.raw_array.specs.Members.{cost_of_all}
use Rattle.csv_read.specs.Chunks.{AreColumnsOf, all_blocks}
use Rattle.csv_read.proofs.EmptiedBuilders.{EmptiedSoFar}
use Rattle.csv_read.proofs.chunk.column_arrays.Given as goal

-- the columns so far are taken out of their builders and are in arrays, and there is room for the others
abbrev pub invariant-loop-j : goal.invariant-loop-j
invariant-loop-j l = record {
  emptied : EmptiedSoFar l.j l.initial.builders l.builders;
  arrays : AreColumnsOf (take l.j l.initial.builders) l.arrays.items;
  count : vec_len l.arrays ≡ l.j;
  room : length l.initial.builders ≤ vec_capacity l.arrays;
  units : l.pass.units + cost_of_all (trees l.arrays.items) ≡ l.initial.pass.units;
  small : cost_of_all (trees l.arrays.items) ≤ 4 * l.j;
  blocks : l.pass.blocks ≡ risen l.initial.pass.blocks (all_blocks l.arrays.items);
  nodes : l.pass.nodes ≡ risen l.initial.pass.nodes l.j;
}
