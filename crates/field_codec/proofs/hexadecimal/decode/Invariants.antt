use Rattle.std.proofs.Common.{length}
use Rattle.field_codec.proofs.Hexadecimals.{Eights}
use Rattle.field_codec.proofs.hexadecimal.decode.Given as goal

-- the bytes of the eights so far are in the room
abbrev pub invariant-loop-place : goal.invariant-loop-place
invariant-loop-place l = Eights l.text l.place (length l.initial.room) l.room
