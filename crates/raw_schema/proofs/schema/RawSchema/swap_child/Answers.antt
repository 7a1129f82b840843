use Rattle.raw_schema.proofs.Moved.{moved}
use Rattle.std.proofs.Common.{arith}
use Rattle.raw_schema.proofs.schema.RawSchema.swap_child.Goals as goal

pub swap-requires : goal.swap-requires
swap-requires c = grind (arith, moved)

pub invariant_of-self : goal.invariant_of-self
invariant_of-self c = grind (arith, moved)

pub returns-clause-put : goal.returns-clause-put
returns-clause-put c = grind (arith, moved)

pub returns-clause-given : goal.returns-clause-given
returns-clause-given c = grind (arith, moved)
