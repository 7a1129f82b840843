use Rattle.std.proofs.Common.{◌≡◌, ◌-◌, ◌/◌, ◌^◌, take}
use Rattle.data_types.specs.promise.FieldText.{last_digits}
use Rattle.field_codec.proofs.hexadecimal.write_bits.Given as goal

abbrev pub invariant-loop-place : goal.invariant-loop-place
invariant-loop-place l = take l.place l.text ≡ last_digits 16 l.place (l.number / 16 ^ (l.count - l.place))
