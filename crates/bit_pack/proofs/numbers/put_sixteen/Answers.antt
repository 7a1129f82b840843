use Rattle.std.proofs.Common.{◌+◌, ◌-◌, ◌∙◌, refl, arith}
use Rattle.std.proofs.lemmas.Slice.{put_mid-paste}
use Rattle.data_types.specs.promise.Packed.{le_bytes}
use Rattle.bit_pack.proofs.Sixteen.{le_bytes_16}
use Rattle.bit_pack.proofs.numbers.put_sixteen.Goals as goal

pub returns : goal.returns
returns c =
    put_mid-paste c.args.at (c.args.at + 16 - c.args.at) c.args.bytes.now c.copy_from_slice.new.self (le_bytes 16 c.args.number) 16
    (c.copy_from_slice.ensures.after ∙ c.to_le_bytes.ensures ∙ le_bytes_16 c.args.number) (omega arith) refl
