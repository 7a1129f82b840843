use Rattle.std.proofs.Common.{ℕ, ◌+◌, ◌≤◌, ◌∙◌, ap, refl, subst, sym}
use Rattle.unit_pass.specs.declared.pass.TheConstants.{SUPPLY}
use Rattle.raw_array.specs.promise.Members.{Cost}
use Rattle.fan_out.specs.Workers.{IsUnspent}
use Rattle.fan_out.proofs.Lists.{none_fits, none_left, one_back, one_fits, popped, same_units}
use Rattle.fan_out.proofs.pieces.release_shares.Goals as goal

pub loop-piece-init : goal.loop-piece-init
loop-piece-init g c = (refl, refl, refl, refl, c.requires.shares)

pub join-requires : goal.join-requires
join-requires g c =
    let i = c.loop-piece.invariant in
    let both = popped (λ p. IsUnspent c.args.cost p) c.loop-piece.pieces.items c.pop.new.self.items c.pop.result c.in-Some.piece
    c.pop.ensures.items c.in-Some.is i.4 in
    none_fits _ _ _ _ (subst (λ (n : ℕ). n ≤ SUPPLY) (sym i.0) c.requires.room) both.1.1.0

pub end-requires : goal.end-requires
end-requires g c =
    let i = c.loop-piece.invariant in
    let both = popped (λ p. IsUnspent c.args.cost p) c.loop-piece.pieces.items c.pop.new.self.items c.pop.result c.in-Some.piece
    c.pop.ensures.items c.in-Some.is i.4 in
    let same = same_units _ _ _ c.join.ensures.units both.1.1.0 in
    let fits = one_fits _ _ _ _ _ _ _ (sym c.in-Some.ensures.cases) i.0 c.requires.room both.1.0 in
    subst (λ (n : ℕ). n + Cost c.in-Some.piece.tree ≤ SUPPLY) (sym same) fits

pub loop-piece-preserved : goal.loop-piece-preserved
loop-piece-preserved g c =
    let i = c.loop-piece.invariant in
    let both = popped (λ p. IsUnspent c.args.cost p) c.loop-piece.pieces.items c.pop.new.self.items c.pop.result c.in-Some.piece
    c.pop.ensures.items c.in-Some.is i.4 in
    let none = both.1.1 in
    let same = same_units _ _ _ c.join.ensures.units none.0 in
    let back = c.end.ensures.units ∙ ap (λ (n : ℕ). n + Cost c.in-Some.piece.tree) same
    ∙ ap (λ (n : ℕ). c.loop-piece.pass.units + n) both.1.0 in (
      one_back _ _ _ _ _ _ (sym c.in-Some.ensures.cases) i.0 back,
      refl,
      c.end.ensures.blocks ∙ c.join.ensures.same_blocks none.1.0 ∙ i.2,
      c.end.ensures.nodes ∙ c.join.ensures.same_nodes none.1.1 ∙ i.3,
      both.0,
    )

pub destroy_empty-requires : goal.destroy_empty-requires
destroy_empty-requires g c = c.in_default.ensures.cases.1

pub returns-clause-units : goal.returns-clause-units
returns-clause-units g c = none_left _ _ _ _ c.in_default.ensures.cases.0 c.loop-piece.invariant.0

pub returns-clause-blocks : goal.returns-clause-blocks
returns-clause-blocks g c = c.loop-piece.invariant.2

pub returns-clause-nodes : goal.returns-clause-nodes
returns-clause-nodes g c = c.loop-piece.invariant.3
