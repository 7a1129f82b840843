use Rattle.data_types.specs.promise.TypedView.{typed_of}
use Rattle.union_cols.specs.NullColumns.{AreAllBut, IsNullColumn}
use Rattle.union_cols.proofs.tag_ids.valued_columns.Given as goal

-- those of the columns so far
abbrev pub invariant-loop-k : goal.invariant-loop-k
invariant-loop-k l = AreAllBut (IsNullColumn (typed_of l.typed) l.array) l.k l.numbers.items
