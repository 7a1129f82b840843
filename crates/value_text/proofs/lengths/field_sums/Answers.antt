use Rattle.std.proofs.Common.{◌∙◌, ◌+◌, ◌++◌, ◌∷◌, [], List, ℕ, ap, sym, subst}
use Rattle.value_text.specs.Lengths.{AreSummed}
use Rattle.value_text.specs.declared.lengths.Lengths.TheVariants as all
use Rattle.value_text.proofs.LengthSums.{any-length, summed-own, summed-same}
use Rattle.value_text.proofs.lengths.field_sums.Goals as goal
use Rattle.value_text.proofs.lengths.field_sums.Goals.{in-Same, in-Own+in_ok-push-in-Own}

pub loop-k-preserved : goal.loop-k-preserved
loop-k-preserved c =
    let kids = c.args.kids.now in
    let k = c.loop-k.k in
    let kid = c.index-kids-k.result in
    elim c.match-kids-k.branch [
      | in-Same w ↦
          let is = any-length kids k (all.Same 0) kid c.loop-k-test.true ∙ sym c.index-kids-k.is ∙ w.in-Same.is in
          let more = summed-same kids k c.loop-k.same _ c.loop-k.own.items is c.loop-k.invariant in
          subst (λ (own : List ℕ). AreSummed kids (k + 1) c.match-kids-k.same own) (sym (ap (λ v. v.items) w.own-is))
          (subst (λ (s : ℕ). AreSummed kids (k + 1) s c.loop-k.own.items) (sym (w.same-is ∙ w.plus-same.ensures)) more)
      | in-Own+in_ok-push-in-Own w ↦
          subst (λ (own : List ℕ). AreSummed kids (k + 1) c.match-kids-k.same own) (sym (ap (λ v. v.items) w.own-is ∙ w.in_ok-push-in-Own.ensures.items))
          (subst (λ (s : ℕ). AreSummed kids (k + 1) s (c.loop-k.own.items ++ k ∷ [])) (sym w.same-is)
          (summed-own kids k c.loop-k.same c.loop-k.own.items c.loop-k.invariant))
    ]
