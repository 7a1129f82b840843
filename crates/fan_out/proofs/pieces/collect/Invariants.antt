use Rattle.std.proofs.Common.{◌≡◌, ℕ, ◌≤◌, get_or}
use Rattle.fan_out.specs.Workers.{SameTrees, Collected}
use Rattle.fan_out.proofs.pieces.collect.Given as goal

abbrev pub invariant-loop-worker : goal.invariant-loop-worker
invariant-loop-worker g l =
    SameTrees l.initial.pieces l.pieces
    × Collected l.worker l.initial.pieces l.outs.items
    × ((w : ℕ) (d : _) → l.worker ≤ w → get_or l.pieces w d ≡ get_or l.initial.pieces w d)
