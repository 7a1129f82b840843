use Rattle.std.proofs.Common.{◌≡◌, ◌∙◌, ap, sym, subst, List, ℕ, take, drop, length, ◌-◌}
use Rattle.stage_plan.specs.promise.Types.{CutsAt}
use Rattle.stage_plan.proofs.Cuts.{all_lack, cut_at, tail_all}
use Rattle.stage_plan.proofs.types.cut.Goals as goal

pub returns-in_default-clause-none : goal.returns-in_default-clause-none
returns-in_default-clause-none c = all_lack c.args.byte c.args.text.now c.in_default.ensures.none

pub returns-clause-found : goal.returns-clause-found
returns-clause-found c =
    let place = c.in-Some.place in
    let cuts = cut_at c.args.byte c.args.text.now place (sym c.place_of.ensures.first ∙ c.in-Some.is) in
    let behind : drop 1 (drop place c.args.text.now) ≡ take (length c.split_at.result.1.now - 1) (drop 1 c.split_at.result.1.now) =
    ap (λ (l : List ℕ). drop 1 l) (sym c.split_at.ensures.back) ∙ sym (tail_all c.split_at.result.1.now) in
    subst (λ (l : List ℕ). CutsAt c.args.byte c.args.text.now c.split_at.result.0.now l) behind
    (subst (λ (l : List ℕ). CutsAt c.args.byte c.args.text.now l (drop 1 (drop place c.args.text.now))) (sym c.split_at.ensures.front) cuts)
