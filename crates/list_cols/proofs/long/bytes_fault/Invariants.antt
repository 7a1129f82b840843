use Rattle.std.proofs.Common.{ℕ, ◌<◌}
use Rattle.data_types.specs.promise.TypedView.{typed_of}
use Rattle.list_cols.specs.Spreading.{FitsAt}
use Rattle.list_cols.proofs.long.bytes_fault.Given as goal

-- the values of the columns so far have encodings
abbrev pub invariant-loop-k : goal.invariant-loop-k
invariant-loop-k l = (j : ℕ) → j < l.k → FitsAt l.column (typed_of l.typed) l.array j
