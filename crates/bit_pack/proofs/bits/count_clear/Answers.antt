use Rattle.std.proofs.Common.{◌≤◌, ◌*◌, ◌/◌, ◌+◌, arith}
use Rattle.bit_pack.proofs.Counts.{three_parts}
use Rattle.bit_pack.proofs.bits.count_clear.Goals as goal

pub returns : goal.returns
returns c =
    let low : c.args.from ≤ 8 * c.div_ceil-first_byte.result = omega (arith, c.div_ceil-first_byte.ensures) in
    let mid : c.div_ceil-first_byte.result ≤ (c.args.from + c.args.len) / 8 = omega (arith, c.if-end_byte-first_byte.false) in
    let high : 8 * ((c.args.from + c.args.len) / 8) ≤ c.args.from + c.args.len = omega arith in
    let parts = three_parts c.args.bytes.now c.args.from c.args.len c.div_ceil-first_byte.result ((c.args.from + c.args.len) / 8) low mid high in
    omega (arith, parts, c.clear_bits-before.ensures.count, c.clear_bits_of_bytes-whole.ensures.count, c.clear_bits-behind.ensures.count)
