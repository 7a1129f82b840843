use Rattle.std.proofs.Common.{◌≤◌, ◌+◌, vec_capacity, vec_len}
use Rattle.col_build.specs.Times.{AddsBits}
use Rattle.col_build.proofs.bits.push_each.Given as goal

-- the bits so far, and what they took of the room
abbrev pub invariant-loop-i : goal.invariant-loop-i
invariant-loop-i l =
    AddsBits l.count l.flag l.i l.initial.bits.items l.bits.items × (vec_len l.bits ≤ vec_len l.initial.bits + l.i)
    × (vec_capacity l.initial.bits ≤ vec_capacity l.bits)
