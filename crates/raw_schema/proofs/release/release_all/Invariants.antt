use Rattle.std.proofs.Common.{◌≡◌, ◌+◌, vec_len}
use Rattle.tree_model.specs.promise.TreeData.{trees}
use Rattle.raw_schema.specs.Members.{nodes_of_all}
use Rattle.raw_schema.proofs.release.release_all.Given as goal

-- the units of the children that are left are still to come
abbrev pub invariant-loop-child : goal.invariant-loop-child
invariant-loop-child l =
    (l.pass.units + nodes_of_all (trees l.children.items) ≡ l.initial.pass.units + nodes_of_all (trees l.initial.children.items))
    × (l.pass.blocks ≡ l.initial.pass.blocks)
    × (l.pass.nodes ≡ l.initial.pass.nodes)

abbrev pub decreases-loop-child : goal.decreases-loop-child
decreases-loop-child l = vec_len l.children
