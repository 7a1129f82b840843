use Rattle.std.proofs.Common.{◌≡◌, ℕ, ◌+◌, ◌*◌, ◌%◌, ◌^◌, length, ap, ◌∙◌, arith}
use Rattle.field_codec.proofs.PlacedPoint.{behind_ends, read_behind_more, read_behind_none}
use Rattle.field_codec.proofs.digits.with_so_many.Goals as goal

pub loop-place-init : goal.loop-place-init
loop-place-init c = read_behind_none c.args.number c.args.text.now

pub loop-place-preserved : goal.loop-place-preserved
loop-place-preserved c =
    let digit = c.digit-digit in
    read_behind_more c.args.number c.args.text.now c.loop-place.place c.loop-place.value c.loop-place.all digit.result _ (omega arith) c.requires.fits
    digit.ensures (ap (λ (d : ℕ). (c.loop-place.value * 10 % 2 ^ 64 + d) % 2 ^ 64) c.from.ensures) c.loop-place.invariant

pub returns-clause-digits : goal.returns-clause-digits
returns-clause-digits c =
    let front = c.loop-place.invariant.front (omega arith) in
    let all : c.loop-place.place ≡ length c.args.text.now = omega arith in
    behind_ends c.args.number c.args.text.now c.loop-place.place c.loop-place.value front (omega arith) (λ within. absurd (omega arith)) ∙ all
