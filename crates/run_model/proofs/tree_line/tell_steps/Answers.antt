use Rattle.std.proofs.Common.{◌≡◌, ◌∙◌, ◌<◌, ap, sym, subst, arith, length, take}
use Rattle.std.proofs.Math.Seq.{take-length}
use Rattle.std.proofs.KnownBytes.{Appends-nil, Appends-trans}
use Rattle.std.specs.Io.KnownBytes.{Appends}
use Rattle.std.specs.List.{flat_map}
use Rattle.data_types.specs.WayTexts.{step_text}
use Rattle.run_model.proofs.Pieces.{first-then, says-in-part}
use Rattle.run_model.proofs.TreeLines.{steps-around, steps-push}
use Rattle.run_model.proofs.tree_line.tell_steps.Goals as goal

pub loop-step-init : goal.loop-step-init
loop-step-init g c = record { taken = Appends-nil _; later = omega arith }

pub loop-step-preserved : goal.loop-step-preserved
loop-step-preserved g c =
    let k = c.loop-step.step-index in
    let way = c.args.way.now in
    let inside : k < length way = omega arith in
    let before = c.loop-step.invariant in
    let wrote = c.in_ok-tell_step.ensures in
    record {
      taken = subst (Appends (g.E.Sink.taken c.args.errs.now) (g.E.Sink.taken c.tell_step.new.errs)) (sym (steps-push way k _ inside))
          (Appends-trans _ _ _ _ _ before.taken wrote.0);
      later = omega (arith, before.later, wrote.1);
    }

pub returns-in_err-tell_step : goal.returns-in_err-tell_step
returns-in_err-tell_step g c =
    let k = c.loop-step.step-index in
    let way = c.args.way.now in
    let inside : k < length way = omega arith in
    let before = c.loop-step.invariant in
    says-in-part _ _ _ _ _ _ _ _ c.from_residual.ensures.0 (steps-around way k _ inside)
    (first-then _ _ _ _ _ _ _ _ before.taken before.later c.in_err-tell_step.ensures)

pub returns : goal.returns
returns g c =
    let way = c.args.way.now in
    let all : take c.loop-step.step-index way ≡ way = ap (λ n. take n way) (omega arith) ∙ take-length way in (
      subst (λ ps. Appends (g.E.Sink.taken c.args.errs.now) (g.E.Sink.taken c.loop-step.errs) (flat_map step_text ps)) all c.loop-step.invariant.taken,
      c.loop-step.invariant.later,
    )
