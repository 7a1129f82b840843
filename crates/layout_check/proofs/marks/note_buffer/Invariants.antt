use Rattle.std.proofs.Common.{◌≡◌, length, ◌-◌}
use Rattle.raw_array.specs.promise.Members.{ArrayMembers}
use Rattle.layout_check.specs.Scans.{sized_data, AreMarks}
use Rattle.layout_check.proofs.marks.note_buffer.Given as goal

abbrev pub invariant-loop-place : goal.invariant-loop-place
invariant-loop-place l = (own : ArrayMembers) → l.bytes ≡ sized_data own l.k → AreMarks own l.fn.marks → AreMarks own l.marks

abbrev pub decreases-loop-place : goal.decreases-loop-place
decreases-loop-place l = length l.bytes - l.place
