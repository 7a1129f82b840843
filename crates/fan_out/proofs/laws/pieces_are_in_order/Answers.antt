use Rattle.std.proofs.Common.{◌≡◌, suc, ◌+◌, ap, arith}
use Rattle.array_laws.specs.Pieces.{border}
use Rattle.array_laws.proofs.JoinedPieces.{border-start, border-rises, border-end}
use Rattle.fan_out.proofs.laws.pieces_are_in_order.Goals as goal

pub returns-clause-first : goal.returns-clause-first
returns-clause-first c = border-start

pub returns-clause-rising : goal.returns-clause-rising
returns-clause-rising c rows workers w some =
    let e : suc w ≡ w + 1 = omega arith in
    let next = ap (border rows workers) e in
    omega (arith, border-rises rows workers w some, next)

pub returns-clause-last : goal.returns-clause-last
returns-clause-last c = border-end
