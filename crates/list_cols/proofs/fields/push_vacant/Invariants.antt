use Rattle.std.proofs.Common.{◌≡◌, ◌+◌, ◌++◌, replicate, vec_len, vec_capacity}
use Rattle.tree_model.specs.promise.TreeData.{Released}
use Rattle.list_cols.proofs.fields.push_vacant.Given as goal

-- as many fields are behind those before them as places were counted
abbrev pub invariant-loop-place : goal.invariant-loop-place
invariant-loop-place l = record {
  fields : l.fields.items ≡ l.initial.fields.items ++ replicate l._place Released;
  len : vec_len l.fields ≡ vec_len l.initial.fields + l._place;
  capacity : vec_capacity l.fields ≡ vec_capacity l.initial.fields;
}
