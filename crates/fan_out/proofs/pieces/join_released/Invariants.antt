use Rattle.std.proofs.Common.{◌≡◌, ◌+◌, ◌*◌, All, vec_len}
use Rattle.fan_out.specs.Workers.{IsReleased}
use Rattle.fan_out.proofs.pieces.join_released.Given as goal

abbrev pub invariant-loop-piece : goal.invariant-loop-piece
invariant-loop-piece g l =
    (l.pass.units + vec_len l.pieces * l.cost ≡ l.initial.pass.units + vec_len l.initial.pieces * l.initial.cost)
    × (l.cost ≡ l.initial.cost)
    × (l.pass.blocks ≡ l.initial.pass.blocks)
    × (l.pass.nodes ≡ l.initial.pass.nodes)
    × All (λ p. IsReleased l.initial.cost p) l.pieces.items

abbrev pub decreases-loop-piece : goal.decreases-loop-piece
decreases-loop-piece g l = goal.left-loop-piece g l
