use Rattle.std.proofs.Common.{arith}
use Rattle.array_laws.proofs.Ranges.{numbered}
use Rattle.array_laws.proofs.stored.bytes_make_numbers.Goals as goal

pub returns : goal.returns
returns c = numbered c.args.stored.now (λ i. omega (arith, c.type_inv.stored i))
