use Rattle.std.proofs.Common.{◌≡◌, drop}
use Rattle.data_types.specs.TypedView.{kids_of}
use Rattle.list_cols.specs.promise.Faults.{first_wrong}
use Rattle.list_cols.specs.Faults.{nests}
use Rattle.list_cols.proofs.nest_wrong.wrong_to_nest.Given as goal

-- none so far is at fault
abbrev pub invariant-loop-k : goal.invariant-loop-k
invariant-loop-k l = first_wrong nests 0 (kids_of l.typed) ≡ first_wrong nests l.k (drop l.k (kids_of l.typed))
