use Rattle.std.proofs.Common.{arith}
use Rattle.bit_pack.proofs.Counts.{one_byte_more}
use Rattle.bit_pack.proofs.bits.clear_bits_of_bytes.Goals as goal

pub loop-i-preserved : goal.loop-i-preserved
loop-i-preserved c =
    let more = one_byte_more c.args.bytes.now c.args.first c.loop-i.i c.loop-i.auto.i (omega (arith, c.type_inv.bytes c.loop-i.i)) in
    record { count = omega (arith, c.loop-i.invariant.count, more); bound = omega (arith, c.loop-i.invariant.bound, c.loop-i.auto.i) }
