use Rattle.std.proofs.Common.{[], ◌∷◌}
use Rattle.data_types.specs.promise.FieldText.{last_digits}
use Rattle.value_text.proofs.Parts.{both-appended}
use Rattle.value_text.proofs.value.push_float.Goals as goal

pub returns : goal.returns
returns c =
    both-appended c.push_bits.result c.args.text.now c.push.new.self c.push_bits.new.self (120 ∷ []) (last_digits 16 16 c.args.bits)
    c.in_ok-push.ensures c.push_bits.ensures
