use Rattle.field_codec.proofs.PlacedPoint.{BehindRead}
use Rattle.field_codec.proofs.digits.with_so_many.Given as goal

abbrev pub invariant-loop-place : goal.invariant-loop-place
invariant-loop-place l = BehindRead l.number l.text l.place l.value l.all
