use Rattle.std.proofs.Common.{arith}
use Rattle.bit_pack.proofs.Sixteen.{two_halves}
use Rattle.bit_pack.proofs.numbers.sixteen_at.Goals as goal

pub returns : goal.returns
returns c = omega (arith, two_halves c.args.bytes.now c.args.at c.requires, c.eight_at-low.ensures, c.eight_at-high.ensures, c.from.ensures, c.from-2.ensures)
