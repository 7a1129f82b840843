use Rattle.std.proofs.Common.{◌≡◌, ◌∙◌, ◌++◌, ap, sym, subst, arith, [], ◌∷◌, List, ℕ}
use Rattle.data_types.specs.Parts.{AreWithin}
use Rattle.stage_model.proofs.Numbers.{others-below, within}
use Rattle.stage_model.specs.Typing.{others}
use Rattle.stage_plan.proofs.PlanLists.{others_same, others_with}
use Rattle.stage_plan.proofs.places.others.Goals as goal
use Rattle.stage_plan.proofs.places.others.Goals.{then-not-contains+in_ok-push, else-not-contains}

pub loop-place-preserved : goal.loop-place-preserved
loop-place-preserved c =
    let n = c.loop-place.place-counter in
    elim c.if-not-contains.branch [
      | then-not-contains+in_ok-push w ↦
          ap (λ v. v.items) w.rest-is ∙ w.in_ok-push.ensures.items ∙ ap (λ (l : List ℕ). l ++ n ∷ []) c.loop-place.invariant
          ∙ sym (others_with c.args.places.now n (sym c.contains.ensures.value ∙ w.if-not-contains.true))
      | else-not-contains w ↦
          ap (λ v. v.items) w.rest-is ∙ c.loop-place.invariant ∙ sym (others_same c.args.places.now n (sym c.contains.ensures.value ∙ w.if-not-contains.false))
    ]

pub returns-clause-within : goal.returns-clause-within
returns-clause-within c =
    let picks = c.args.places.now in
    let count = c.args.count in
    let end : c.loop-place.place-counter ≡ count = omega arith in
    subst (AreWithin count) (sym (c.loop-place.invariant ∙ ap (λ (n : ℕ). others picks n) end)) (within count (others picks count) (others-below picks count))
