use Rattle.std.proofs.Common.{◌∙◌, ◌++◌, ◌∷◌, [], List, ℕ, Bool, ap, sym}
use Rattle.arr_import.specs.Cols.{window_of}
use Rattle.arr_import.specs.Window.{item_at}
use Rattle.stage_model.specs.promise.Stages.{passes}
use Rattle.stage_filter.proofs.Numbers.{more-no, more-yes}
use Rattle.stage_filter.proofs.kept.kept_by_null.Goals as goal
use Rattle.stage_filter.proofs.kept.kept_by_null.Goals.{then-null_passes+in_ok-push, else-null_passes}

pub loop-i-preserved : goal.loop-i-preserved
loop-i-preserved c constant =
    let passing : ℕ → Bool = λ i. passes c.args.test constant (item_at (window_of c.args.items.now) i) in
    let is = c.null_passes.ensures constant in
    elim c.if-null_passes.branch [
      | then-null_passes+in_ok-push w ↦
          ap (λ v. v.items) w.kept-is ∙ w.in_ok-push.ensures.items ∙ ap (λ (ks : List ℕ). ks ++ c.loop-i.i ∷ []) (c.loop-i.invariant constant)
          ∙ sym (more-yes passing c.args.from c.loop-i.i c.loop-i.auto.i (sym is ∙ w.if-null_passes.true))
      | else-null_passes w ↦
          ap (λ v. v.items) w.kept-is ∙ c.loop-i.invariant constant
          ∙ sym (more-no passing c.args.from c.loop-i.i c.loop-i.auto.i (sym is ∙ w.if-null_passes.false))
    ]
