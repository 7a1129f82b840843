use Rattle.std.proofs.Common.{◌∙◌, ap, sym}
use Rattle.ahead_ring.proofs.Joined.{taken}
use Rattle.ahead_ring.proofs.ahead.Ahead.next.Goals as goal

pub returns-then-cached_slots-gt0-clause-gives : goal.returns-then-cached_slots-gt0-clause-gives
returns-then-cached_slots-gt0-clause-gives g c =
    let pop = c.pop_known.ensures.received in
    sym (ap (λ v. v.coming) c.self.view_is)
    ∙ taken (g.M.Maker.coming c.self.inside.whole.value) _ _ _ _ _ _ c.advance.ensures.prefix c.advance.ensures.received pop.1 pop.0
