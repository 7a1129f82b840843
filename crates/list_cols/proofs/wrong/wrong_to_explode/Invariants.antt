use Rattle.std.proofs.Common.{◌≡◌, drop}
use Rattle.data_types.specs.TypedView.{kids_of}
use Rattle.list_cols.specs.promise.Faults.{explodes, first_wrong}
use Rattle.list_cols.proofs.wrong.wrong_to_explode.Given as goal

-- none so far is at fault
abbrev pub invariant-loop-k : goal.invariant-loop-k
invariant-loop-k l = first_wrong (explodes l.column) 0 (kids_of l.typed) ≡ first_wrong (explodes l.column) l.k (drop l.k (kids_of l.typed))
