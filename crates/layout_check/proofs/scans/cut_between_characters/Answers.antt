use Rattle.std.proofs.Common.{◌≤◌, ◌+◌, ◌*◌, ◌-◌, ◌<◌, ◌^◌, ◌∙◌, ℕ, Fits, w64, subst, sym, true≢false, arith}
use Rattle.std.specs.Str.{IsCharBoundary}
use Rattle.std.proofs.Math.Nat.{mul-le-mul_right}
use Rattle.data_types.specs.promise.Packed.{offset_width}
use Rattle.layout_rules.specs.promise.Layout.{natural}
use Rattle.layout_check.specs.Scans.{AreBorders}
use Rattle.layout_check.proofs.Casts.{same}
use Rattle.layout_check.proofs.Loops.{at_last}
use Rattle.layout_check.proofs.Scanned.{AreBorders-none, AreBorders-more}
use Rattle.layout_check.proofs.scans.cut_between_characters.Goals as goal

place_fits : (start i len : ℕ) → i < len + 1 → start + len + 1 < 2 ^ 64 → Fits w64 (start + i)
place_fits start i len l k = grind (arith, l, k)

place_within : (start i len width size : ℕ) → i < len + 1 → (start + len + 1) * width ≤ size → (start + i + 1) * width ≤ size
place_within start i len width size l k =
    let less : start + i + 1 ≤ start + len + 1 = omega (arith, l) in
    let room = mul-le-mul_right width less in
    omega (arith, room, k)

pub loop-i-init : goal.loop-i-init
loop-i-init c = AreBorders-none c.args.wide c.args.offsets.now c.args.start c.args.base c.args.text.now

pub overflow_add-start : goal.overflow_add-start
overflow_add-start c = place_fits c.args.start c.loop-i.i c.args.len c.loop-i-test.true c.requires.fits

pub offset_at-requires : goal.offset_at-requires
offset_at-requires c =
    record { within = place_within c.args.start c.loop-i.i c.args.len (offset_width c.args.wide) _ c.loop-i-test.true c.requires.long }

pub returns-then-not-is_border : goal.returns-then-not-is_border
returns-then-not-is_border c = λ h. absurd (true≢false (sym h))

pub loop-i-preserved : goal.loop-i-preserved
loop-i-preserved c =
    AreBorders-more c.args.wide c.args.offsets.now c.args.start c.args.base c.args.text.now c.loop-i.i c.loop-i.invariant
    (subst (λ z. IsCharBoundary c.args.text.now (natural z - c.args.base)) (same c.offset_at.result c.offset_at.type_inv ∙ c.offset_at.ensures.value)
    (c.is_border.ensures c.if-not-is_border.false))

pub returns : goal.returns
returns c =
    λ h. subst (AreBorders c.args.wide c.args.offsets.now c.args.start c.args.base c.args.text.now)
    (at_last c.loop-i.i (c.args.len + 1) c.loop-i-test.false c.loop-i.auto.i-end) c.loop-i.invariant
