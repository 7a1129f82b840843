use Rattle.std.proofs.Common.{ap, map, sym, ◌∙◌}
use Rattle.raw_place.specs.Led.{way}
use Rattle.raw_place.specs.Ways.{ways}
use Rattle.raw_place.proofs.Leads.{one_less}
use Rattle.raw_place.proofs.pointed.Pointed.pop.Goals as goal

pub invariant_of-self : goal.invariant_of-self
invariant_of-self g c =
    let first = c.self.inside.values.ptr in let left = c.take_last-2.new.self.len in
    one_less c.take_last.new.self.items c.take_last.result first left
    (ap (map way) (sym c.take_last.ensures) ∙ c.self.invariant ∙ ap (ways first) (sym c.take_last-2.ensures.len))
    ∙ ap (λ p. ways p left) (sym c.take_last-2.ensures.in_place)
