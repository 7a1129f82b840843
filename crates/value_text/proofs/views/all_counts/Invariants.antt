use Rattle.raw_array.specs.promise.Members.{members_of}
use Rattle.value_text.specs.Escapes.{AreEscapeCounts}
use Rattle.value_text.proofs.views.all_counts.Given as goal

-- those of the buffers so far
abbrev pub invariant-loop-k : goal.invariant-loop-k
invariant-loop-k l = AreEscapeCounts l.counts.items (members_of l.array) l.k
