use Rattle.std.proofs.Common.{ℕ, ◌+◌, ◌∙◌, ap, refl, sym}
use Rattle.fan_out.specs.Workers.{IsReleased}
use Rattle.fan_out.proofs.Lists.{none_left, one_back, one_fits, popped}
use Rattle.fan_out.proofs.pieces.join_released.Goals as goal

pub loop-piece-init : goal.loop-piece-init
loop-piece-init g c = (refl, refl, refl, refl, c.requires.released)

pub discard-requires : goal.discard-requires
discard-requires g c =
    let both = popped (λ p. IsReleased c.args.cost p) c.loop-piece.pieces.items c.pop.new.self.items c.pop.result c.in-Some.piece
    c.pop.ensures.items c.in-Some.is c.loop-piece.invariant.4 in
    both.1.tree

pub join-requires : goal.join-requires
join-requires g c =
    let both = popped (λ p. IsReleased c.args.cost p) c.loop-piece.pieces.items c.pop.new.self.items c.pop.result c.in-Some.piece
    c.pop.ensures.items c.in-Some.is c.loop-piece.invariant.4 in
    one_fits _ _ _ _ _ _ _ (sym c.in-Some.ensures.cases) c.loop-piece.invariant.0 c.requires.room both.1.units

pub loop-piece-preserved : goal.loop-piece-preserved
loop-piece-preserved g c =
    let i = c.loop-piece.invariant in
    let both = popped (λ p. IsReleased c.args.cost p) c.loop-piece.pieces.items c.pop.new.self.items c.pop.result c.in-Some.piece
    c.pop.ensures.items c.in-Some.is i.4 in
    let piece = both.1 in (
      one_back _ _ _ _ _ _ (sym c.in-Some.ensures.cases) i.0 (c.join.ensures.units ∙ ap (λ (n : ℕ). c.loop-piece.pass.units + n) piece.units),
      refl,
      c.join.ensures.same_blocks piece.blocks ∙ i.2,
      c.join.ensures.same_nodes piece.nodes ∙ i.3,
      both.0,
    )

pub destroy_empty-requires : goal.destroy_empty-requires
destroy_empty-requires g c = c.in_default.ensures.cases.1

pub returns-clause-units : goal.returns-clause-units
returns-clause-units g c = none_left _ _ _ _ c.in_default.ensures.cases.0 c.loop-piece.invariant.0

pub returns-clause-blocks : goal.returns-clause-blocks
returns-clause-blocks g c = c.loop-piece.invariant.2

pub returns-clause-nodes : goal.returns-clause-nodes
returns-clause-nodes g c = c.loop-piece.invariant.3
