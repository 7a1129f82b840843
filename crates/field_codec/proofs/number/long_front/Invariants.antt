use Rattle.std.proofs.Common.{◌^◌, ◌<◌}
use Rattle.field_codec.proofs.Numbers.{Front}
use Rattle.field_codec.proofs.number.long_front.Given as goal

abbrev pub invariant-loop-place : goal.invariant-loop-place
invariant-loop-place l = record { front : Front l.text l.place l.value; small : l.value < 10 ^ 38 }
