use Rattle.std.proofs.Common.{◌≡◌, ◌≤◌, take}
use Rattle.raw_array.specs.promise.Members.{holds_of}
use Rattle.raw_array.specs.View.{buffers_of}
use Rattle.raw_array.proofs.views.count_holds.Given as goal

abbrev pub invariant-loop-buffer : goal.invariant-loop-buffer
invariant-loop-buffer l = (l.holds ≡ holds_of (buffers_of (take l.buffer-index l.buffers))) × (l.holds ≤ l.buffer-index)
