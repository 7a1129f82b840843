use Rattle.std.proofs.Common.{◌≡◌, length, ◌-◌}
use Rattle.raw_array.specs.promise.Members.{ArrayMembers}
use Rattle.layout_check.specs.Scans.{sized_data, AreMarks}
use Rattle.layout_check.proofs.marks.note.Given as goal

abbrev pub invariant-loop-next : goal.invariant-loop-next
invariant-loop-next l = (own : ArrayMembers) → l.bytes ≡ sized_data own l.k → AreMarks own l.fn.marks → AreMarks own l.marks

abbrev pub decreases-loop-next : goal.decreases-loop-next
decreases-loop-next l = length l.initial.marks - l.next
