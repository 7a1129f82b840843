use Rattle.std.proofs.Common.{◌≡◌, ◌+◌, ◌-◌, ◌*◌}
use Rattle.tree_model.specs.promise.TreeData.{trees}
use Rattle.tree_model.specs.promise.TreeCost.{holds_of_all}
use Rattle.tree_model.specs.TreeCost.{nodes_of_all}
use Rattle.unit_pass.specs.promise.Tally.{risen}
use Rattle.raw_array.specs.promise.Members.{holds}
use Rattle.raw_array.specs.Members.{cost_of_all}
use Rattle.tree_text.specs.Cursors.{ArraysRead}
use Rattle.tree_text.proofs.array_tree.+array.Given as goal

abbrev pub decreases-array : goal.decreases-array
decreases-array a = 3 * (101 - a.level) + 1

abbrev pub decreases-live : goal.decreases-live
decreases-live a = 3 * (101 - a.level)

abbrev pub decreases-arrays : goal.decreases-arrays
decreases-arrays a = 3 * (101 - a.level) + 2

-- the trees so far were read
abbrev pub invariant-arrays-loop : goal.invariant-arrays-loop
invariant-arrays-loop l = record {
  read : ArraysRead l.bytes l.fn.cursor l.here l.level l.counter l.made.items;
  units : l.pass.units + cost_of_all (trees l.made.items) ≡ l.initial.pass.units;
  nodes : l.pass.nodes ≡ risen l.initial.pass.nodes (nodes_of_all (trees l.made.items));
  blocks : l.pass.blocks ≡ risen l.initial.pass.blocks (holds_of_all holds (trees l.made.items));
}
