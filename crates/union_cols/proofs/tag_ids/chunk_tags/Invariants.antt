use Rattle.std.proofs.Common.{◌≡◌, ◌≤◌, vec_len, vec_capacity}
use Rattle.data_types.specs.promise.TypedView.{typed_of}
use Rattle.layout_rules.specs.promise.Values.{each, row_items}
use Rattle.union_cols.specs.promise.Tags.{tag_of}
use Rattle.union_cols.proofs.tag_ids.chunk_tags.Given as goal

-- the ids of the rows before this one, in the room that was taken for all
abbrev pub invariant-loop-i : goal.invariant-loop-i
invariant-loop-i l = record {
  ids : l.ids.items ≡ each (λ i. tag_of (row_items (typed_of l.typed) l.array i)) 0 l.i;
  len : vec_len l.ids ≡ l.i;
  room : l.count ≤ vec_capacity l.ids;
}
