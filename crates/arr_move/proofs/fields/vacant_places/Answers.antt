use Rattle.arr_move.proofs.Vacant.{vacant}
use Rattle.std.proofs.Common.{arith}
use Rattle.arr_move.proofs.fields.vacant_places.Goals as goal

pub returns-in_err-children : goal.returns-in_err-children
returns-in_err-children c = grind (arith, vacant)

pub loop-place-init : goal.loop-place-init
loop-place-init c = grind (arith, vacant)

pub released-requires : goal.released-requires
released-requires c = grind (arith, vacant)

pub push_reserved-requires : goal.push_reserved-requires
push_reserved-requires c = grind (arith, vacant)

pub loop-place-smaller : goal.loop-place-smaller
loop-place-smaller c = grind (arith, vacant)

pub returns : goal.returns
returns c = grind (arith, vacant)
