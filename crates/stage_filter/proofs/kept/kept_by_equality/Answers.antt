use Rattle.std.proofs.Common.{◌∙◌, ◌++◌, ◌∷◌, [], List, ℕ, Bool, ap, sym}
use Rattle.arr_import.specs.Cols.{window_of}
use Rattle.arr_import.specs.Window.{item_at}
use Rattle.stage_model.specs.promise.Stages.{passes}
use Rattle.stage_model.specs.declared.stage.Const.TheVariants as consts
use Rattle.stage_filter.specs.Kept.{equality}
use Rattle.stage_filter.proofs.Numbers.{more-no, more-yes}
use Rattle.stage_filter.proofs.kept.kept_by_equality.Goals as goal
use Rattle.stage_filter.proofs.kept.kept_by_equality.Goals.{then-equality_passes+in_ok-push, else-equality_passes}

pub loop-i-preserved : goal.loop-i-preserved
loop-i-preserved c =
    let passing : ℕ → Bool = λ i. passes (equality c.args.equal) (consts.Bytes c.args.constant.now) (item_at (window_of c.args.items.now) i) in
    let is = c.equality_passes.ensures in
    elim c.if-equality_passes.branch [
      | then-equality_passes+in_ok-push w ↦
          ap (λ v. v.items) w.kept-is ∙ w.in_ok-push.ensures.items ∙ ap (λ (ks : List ℕ). ks ++ c.loop-i.i ∷ []) (c.loop-i.invariant)
          ∙ sym (more-yes passing c.args.from c.loop-i.i c.loop-i.auto.i (sym is ∙ w.if-equality_passes.true))
      | else-equality_passes w ↦
          ap (λ v. v.items) w.kept-is ∙ c.loop-i.invariant
          ∙ sym (more-no passing c.args.from c.loop-i.i c.loop-i.auto.i (sym is ∙ w.if-equality_passes.false))
    ]
