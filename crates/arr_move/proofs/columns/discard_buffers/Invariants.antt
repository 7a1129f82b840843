use Rattle.std.proofs.Common.{◌≡◌, vec_len}
use Rattle.raw_array.specs.promise.Members.{holds_of}
use Rattle.raw_array.specs.View.{buffers_of}
use Rattle.arr_move.proofs.columns.discard_buffers.Given as goal

-- no buffer that is left is present
abbrev pub invariant-loop-buffer : goal.invariant-loop-buffer
invariant-loop-buffer l = holds_of (buffers_of l.buffers.items) ≡ 0

abbrev pub decreases-loop-buffer : goal.decreases-loop-buffer
decreases-loop-buffer l = vec_len l.buffers
