use Rattle.std.proofs.Common.{map}
use Rattle.data_types.specs.promise.TypedView.{typed_of}
use Rattle.value_text.specs.Lengths.{TellsKids}
use Rattle.tree_top.proofs.union_length.kid_lengths.Given as goal

-- the children so far
abbrev pub invariant-loop-k : goal.invariant-loop-k
invariant-loop-k l = TellsKids l.kids.items (map typed_of l.typed.kids.items) l.array l.k
