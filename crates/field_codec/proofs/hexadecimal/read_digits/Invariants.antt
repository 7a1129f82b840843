use Rattle.field_codec.proofs.Hexadecimals.{HexRead}
use Rattle.field_codec.proofs.hexadecimal.read_digits.Given as goal

abbrev pub invariant-loop-place : goal.invariant-loop-place
invariant-loop-place l = HexRead l.text l.place l.number l.all
