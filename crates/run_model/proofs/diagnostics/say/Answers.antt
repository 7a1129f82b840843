use Rattle.std.proofs.Common.{◌≡◌, ◌∙◌, ◌<◌, ap, sym, subst, arith, length, take}
use Rattle.std.proofs.Math.Seq.{take-length}
use Rattle.std.proofs.KnownBytes.{Appends-nil, Appends-trans}
use Rattle.std.specs.Io.KnownBytes.{Appends}
use Rattle.run_model.specs.Diagnostics.{TookFirst, joined}
use Rattle.run_model.proofs.Pieces.{first-less, first-then, pieces-around, pieces-push, says-failed}
use Rattle.run_model.proofs.diagnostics.say.Goals as goal

pub loop-piece-init : goal.loop-piece-init
loop-piece-init g c = record { taken = Appends-nil _; later = omega arith }

pub loop-piece-preserved : goal.loop-piece-preserved
loop-piece-preserved g c =
    let k = c.loop-piece.piece-index in
    let pieces = c.args.pieces.now in
    let inside : k < length pieces = omega arith in
    let before = c.loop-piece.invariant in
    let wrote = c.in_ok-say_piece.ensures in
    record {
      taken = subst (Appends (g.E.Sink.taken c.args.errs.now) (g.E.Sink.taken c.say_piece.new.errs))
          (sym (pieces-push pieces k _ _ inside c.as_bytes.ensures.value))
          (Appends-trans _ _ _ _ _ before.taken wrote.0);
      later = omega (arith, before.later, wrote.1);
    }

pub returns-in_err-say_piece : goal.returns-in_err-say_piece
returns-in_err-say_piece g c =
    let k = c.loop-piece.piece-index in
    let pieces = c.args.pieces.now in
    let inside : k < length pieces = omega arith in
    let before = c.loop-piece.invariant in
    says-failed _ _ _ _ _ _ c.from_residual.ensures.0
    (subst (TookFirst (g.E.Sink.taken c.args.errs.now) (g.E.Sink.taken c.say_piece.new.errs) (g.E.Sink.faults c.args.errs.now)
    (g.E.Sink.faults c.say_piece.new.errs))
    (sym (pieces-around pieces k _ _ inside c.as_bytes.ensures.value))
    (first-less _ _ _ _ _ _ (first-then _ _ _ _ _ _ _ _ before.taken before.later c.in_err-say_piece.ensures)))

pub returns : goal.returns
returns g c =
    let pieces = c.args.pieces.now in
    let all : take c.loop-piece.piece-index pieces ≡ pieces = ap (λ n. take n pieces) (omega arith) ∙ take-length pieces in (
      subst (λ ps. Appends (g.E.Sink.taken c.args.errs.now) (g.E.Sink.taken c.loop-piece.errs) (joined ps)) all c.loop-piece.invariant.taken,
      c.loop-piece.invariant.later,
    )
