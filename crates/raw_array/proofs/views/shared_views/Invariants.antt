use Rattle.std.proofs.Common.{◌≡◌, ◌+◌, ◌≤◌, map, take, vec_len, vec_capacity}
use Rattle.tree_model.proofs.SoFar.{so_far}
use Rattle.raw_array.specs.promise.Members.{holds_of}
use Rattle.raw_array.specs.Members.{shared_buffer, lowered_buffer}
use Rattle.raw_array.specs.View.{buffers_of}
use Rattle.raw_array.proofs.views.shared_views.Given as goal

-- the first i buffers are shared, and lowered where they were; their holds' units are out
abbrev pub invariant-loop-i : goal.invariant-loop-i
invariant-loop-i l =
    (buffers_of l.buffers.items ≡ so_far lowered_buffer l.i (buffers_of l.initial.buffers.items))
    × (buffers_of l.views.items ≡ map shared_buffer (take l.i (buffers_of l.initial.buffers.items)))
    × (l.pass.units + holds_of (buffers_of l.views.items) ≡ l.initial.pass.units)
    × (l.pass.blocks ≡ l.initial.pass.blocks)
    × (l.pass.nodes ≡ l.initial.pass.nodes)
    × (vec_len l.views ≡ l.i)
    × (vec_len l.initial.buffers ≤ vec_capacity l.views)
