use Rattle.raw_array.specs.promise.Members.{members_of}
use Rattle.layout_check.specs.Scans.{AreMarks}
use Rattle.layout_check.proofs.marks.note_all.Given as goal

abbrev pub invariant-loop-k : goal.invariant-loop-k
invariant-loop-k l = AreMarks (members_of l.node.array.now) l.marks
