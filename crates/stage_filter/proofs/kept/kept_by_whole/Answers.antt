use Rattle.std.proofs.Common.{◌∙◌, ◌++◌, ◌∷◌, [], List, ℕ, Bool, ap, sym}
use Rattle.arr_import.specs.Cols.{window_of}
use Rattle.arr_import.specs.Window.{item_at}
use Rattle.stage_model.specs.promise.Stages.{passes}
use Rattle.stage_model.specs.declared.stage.Const.TheVariants as consts
use Rattle.stage_filter.proofs.Numbers.{more-no, more-yes}
use Rattle.stage_filter.proofs.kept.kept_by_whole.Goals as goal
use Rattle.stage_filter.proofs.kept.kept_by_whole.Goals.{then-comparison_passes+in_ok-push, else-comparison_passes}

pub loop-i-preserved : goal.loop-i-preserved
loop-i-preserved c =
    let passing : ℕ → Bool = λ i. passes c.args.test (consts.Whole c.args.constant.now) (item_at (window_of c.args.items.now) i) in
    let is = c.comparison_passes.ensures (consts.Whole c.args.constant.now) (item_at (window_of c.args.items.now) c.loop-i.i) c.whole_order.ensures in
    elim c.if-comparison_passes.branch [
      | then-comparison_passes+in_ok-push w ↦
          ap (λ v. v.items) w.kept-is ∙ w.in_ok-push.ensures.items ∙ ap (λ (ks : List ℕ). ks ++ c.loop-i.i ∷ []) (c.loop-i.invariant)
          ∙ sym (more-yes passing c.args.from c.loop-i.i c.loop-i.auto.i (sym is ∙ w.if-comparison_passes.true))
      | else-comparison_passes w ↦
          ap (λ v. v.items) w.kept-is ∙ c.loop-i.invariant
          ∙ sym (more-no passing c.args.from c.loop-i.i c.loop-i.auto.i (sym is ∙ w.if-comparison_passes.false))
    ]
