use Rattle.std.proofs.Common.{List, ℕ, Some, ap, refl, inl, inr}
use Rattle.std.specs.Str.{is_utf8}
use Rattle.std.proofs.lemmas.Bool.{cases_Bool}
use Rattle.std.proofs.lemmas.Str.{IsUtf8-from_is_utf8, is_utf8-from_IsUtf8}
use Rattle.stage_model.specs.declared.stage.Const.TheVariants as consts
use Rattle.stage_plan.proofs.constants.text_constant.Goals as goal

pub returns-in_ok-text-in-Ok : goal.returns-in_ok-text-in-Ok
returns-in_ok-text-in-Ok c =
    rw (is_utf8-from_IsUtf8 c.args.text.now c.in-Ok.ensures.cases.1) (ap (λ (t : List ℕ). Some (consts.Bytes t)) c.in_ok-text-in-Ok.ensures)

pub returns-in-Err : goal.returns-in-Err
returns-in-Err c = elim (cases_Bool (is_utf8 c.args.text.now)) [
  | inl is ↦ absurd (c.in-Err.ensures.cases.0 (IsUtf8-from_is_utf8 c.args.text.now is))
  | inr other ↦ rw other refl
]
