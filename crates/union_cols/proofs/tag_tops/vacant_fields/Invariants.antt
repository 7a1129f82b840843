use Rattle.std.proofs.Common.{◌≡◌, ◌≤◌, replicate, vec_len, vec_capacity}
use Rattle.tree_model.specs.promise.TreeData.{Released}
use Rattle.union_cols.proofs.tag_tops.vacant_fields.Given as goal

-- as many children are there as places were counted
abbrev pub invariant-loop-place : goal.invariant-loop-place
invariant-loop-place l =
    (l.children.items ≡ replicate l._place Released) × (vec_len l.children ≡ l._place) × (l.places ≤ vec_capacity l.children)
