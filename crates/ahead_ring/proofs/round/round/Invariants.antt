use Rattle.std.proofs.Common.{◌≡◌, ◌+◌, ◌≤◌}
use Rattle.rtrb.specs.Ring.{sent, known_free, SameProducer}
use Rattle.ahead_ring.specs.Coming.{IsRound, RanOut}
use Rattle.ahead_ring.specs.declared.round.Ending.TheVariants as ending
use Rattle.ahead_ring.proofs.round.round.Given as goal

abbrev pub invariant-loop-turn : goal.invariant-loop-turn
invariant-loop-turn g l =
    IsRound (RanOut g.M.Maker.spent) l._turn ending.Full (g.M.Maker.coming l.initial.maker) (sent l.initial.producer) (g.M.Maker.coming l.maker) (sent l.producer)
    × SameProducer l.initial.producer l.producer
    × (l.most ≤ known_free l.producer + l._turn)
    × (l.ending ≡ ending.Full)
    × (l._turn ≤ l.most)
