use Rattle.std.specs.Prelude.{ℕ, ◌<◌}
use Rattle.data_types.specs.promise.TypedView.{typed_of}
use Rattle.union_cols.specs.NullColumns.{IsNullColumn}
use Rattle.union_cols.proofs.tag_ids.first_valued.Given as goal

-- the columns so far
abbrev pub invariant-loop-k : goal.invariant-loop-k
invariant-loop-k l = (j : ℕ) → j < l.k → IsNullColumn (typed_of l.typed) l.array j
