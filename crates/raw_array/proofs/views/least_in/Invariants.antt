use Rattle.std.proofs.Common.{◌≡◌, ◌≤◌, take}
use Rattle.raw_array.specs.promise.Members.{whole}
use Rattle.raw_array.specs.Members.{least_of}
use Rattle.raw_array.specs.View.{buffers_of}
use Rattle.raw_array.proofs.views.least_in.Given as goal

abbrev pub invariant-loop-buffer : goal.invariant-loop-buffer
invariant-loop-buffer l = (l.least ≡ least_of (buffers_of (take l.buffer-index l.buffers))) × (l.least ≤ whole)
