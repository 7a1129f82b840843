use Rattle.std.proofs.Common.{◌≡◌, ◌*◌, take}
use Rattle.data_types.specs.promise.FieldText.{hex_text}
use Rattle.field_codec.proofs.hexadecimal.write_pairs.Given as goal

abbrev pub invariant-loop-place : goal.invariant-loop-place
invariant-loop-place l = take (2 * l.place) l.text ≡ hex_text (take l.place l.bytes)
