use Rattle.std.proofs.Common.{◌≡◌, ◌+◌, ◌-◌, ◌*◌}
use Rattle.tree_model.specs.promise.TreeData.{trees}
use Rattle.unit_pass.specs.promise.Tally.{risen}
use Rattle.raw_schema.specs.Members.{nodes_of_all}
use Rattle.tree_text.specs.Cursors.{SchemasRead}
use Rattle.tree_text.proofs.schema_tree.+schema.Given as goal

abbrev pub decreases-schema : goal.decreases-schema
decreases-schema a = 3 * (101 - a.level) + 1

abbrev pub decreases-live : goal.decreases-live
decreases-live a = 3 * (101 - a.level)

abbrev pub decreases-schemas : goal.decreases-schemas
decreases-schemas a = 3 * (101 - a.level) + 2

-- the trees so far were read
abbrev pub invariant-schemas-loop : goal.invariant-schemas-loop
invariant-schemas-loop l = record {
  read : SchemasRead l.bytes l.fn.cursor l.here l.level l.counter l.made.items;
  units : l.pass.units + nodes_of_all (trees l.made.items) ≡ l.initial.pass.units;
  nodes : l.pass.nodes ≡ risen l.initial.pass.nodes (nodes_of_all (trees l.made.items));
  blocks : l.pass.blocks ≡ l.initial.pass.blocks;
}
