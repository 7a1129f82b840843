use Rattle.std.proofs.Common.{◌≡◌}
use Rattle.union_cols.specs.Tags.{start_bytes}
use Rattle.union_cols.proofs.tag_ids.row_starts.Given as goal

-- the offsets before this one
abbrev pub invariant-loop-i : goal.invariant-loop-i
invariant-loop-i l = l.bytes.items ≡ start_bytes l.i
