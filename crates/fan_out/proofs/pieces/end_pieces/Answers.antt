use Rattle.std.proofs.Common.{◌≡◌, ℕ, ◌+◌, ◌-◌, ◌*◌, ◌≤◌, ◌∙◌, ap, arith, subst, sym, List, Option, Some, get_or}
use Rattle.unit_pass.specs.declared.pass.TheConstants.{SUPPLY}
use Rattle.fan_out.specs.declared.piece.Piece.{Piece}
use Rattle.fan_out.specs.Workers.{IsReleased}
use Rattle.fan_out.proofs.Lists.{none_fits, others_have, same_some, same_units}
use Rattle.fan_out.proofs.pieces.end_pieces.Goals as goal

-- the piece that was taken off has no units, and counted nothing
has_none : {O : Type 0} (ps : List (Piece O)) (n : ℕ) (r : Option (Piece O)) (p : Piece O)
    → r ≡ Some p → ((d : Piece O) → r ≡ Some (get_or ps (n - 1) d))
    → ((d : Piece O) → ((get_or ps (n - 1) d).pass.units ≡ 0) × ((get_or ps (n - 1) d).pass.blocks ≡ 0) × ((get_or ps (n - 1) d).pass.nodes ≡ 0))
    → (p.pass.units ≡ 0) × (p.pass.blocks ≡ 0) × (p.pass.nodes ≡ 0)
has_none {O} ps n r p is last none =
    subst (λ (q : Piece O). (q.pass.units ≡ 0) × (q.pass.blocks ≡ 0) × (q.pass.nodes ≡ 0)) (same_some (last p) is) (none p)

one_fewer : (n m : ℕ) → m + 1 ≡ n → m ≡ n - 1
one_fewer n m is = omega arith

pub join-requires : goal.join-requires
join-requires g c =
    let none = has_none c.args.pieces.items c.args.pieces.len c.pop.result c.in-Some.last c.in-Some.is
    (λ d. c.pop.ensures.value d c.requires.some) c.requires.last in
    none_fits _ _ _ _ c.requires.room none.0

pub join_released-requires-clause-released : goal.join_released-requires-clause-released
join_released-requires-clause-released g c =
    others_have (IsReleased c.args.cost) c.args.pieces.items c.pop.new.self.items c.pop.result c.in-Some.last c.args.pieces.len
    c.pop.ensures.items c.in-Some.is c.args.pieces.ok.0 c.requires.released

pub join_released-requires-clause-room : goal.join_released-requires-clause-room
join_released-requires-clause-room g c =
    let none = has_none c.args.pieces.items c.args.pieces.len c.pop.result c.in-Some.last c.in-Some.is
    (λ d. c.pop.ensures.value d c.requires.some) c.requires.last in
    let same = same_units _ _ _ c.join.ensures.units none.0 in
    subst (λ (n : ℕ). n + c.pop.new.self.len * c.args.cost ≤ SUPPLY) (sym same)
    (subst (λ (n : ℕ). c.args.pass.now.units + n * c.args.cost ≤ SUPPLY) (sym (one_fewer _ _ c.in-Some.ensures.cases)) c.requires.room)

pub returns-clause-tree : goal.returns-clause-tree
returns-clause-tree g c d = ap (λ p. p.tree) (same_some c.in-Some.is (c.pop.ensures.value d c.requires.some))

pub returns-clause-units : goal.returns-clause-units
returns-clause-units g c =
    let none = has_none c.args.pieces.items c.args.pieces.len c.pop.result c.in-Some.last c.in-Some.is
    (λ d. c.pop.ensures.value d c.requires.some) c.requires.last in
    c.join_released.ensures.units
    ∙ ap (λ (n : ℕ). n + c.pop.new.self.len * c.args.cost) (same_units _ _ _ c.join.ensures.units none.0)
    ∙ ap (λ (n : ℕ). c.args.pass.now.units + n * c.args.cost) (one_fewer _ _ c.in-Some.ensures.cases)

pub returns-clause-blocks : goal.returns-clause-blocks
returns-clause-blocks g c =
    let none = has_none c.args.pieces.items c.args.pieces.len c.pop.result c.in-Some.last c.in-Some.is
    (λ d. c.pop.ensures.value d c.requires.some) c.requires.last in
    c.join_released.ensures.blocks ∙ c.join.ensures.same_blocks none.1

pub returns-clause-nodes : goal.returns-clause-nodes
returns-clause-nodes g c =
    let none = has_none c.args.pieces.items c.args.pieces.len c.pop.result c.in-Some.last c.in-Some.is
    (λ d. c.pop.ensures.value d c.requires.some) c.requires.last in
    c.join_released.ensures.nodes ∙ c.join.ensures.same_nodes none.2
