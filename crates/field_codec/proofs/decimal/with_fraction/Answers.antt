use Rattle.std.proofs.Common.{◌≡◌, ℕ, ◌-◌, ◌*◌, ◌^◌, ◌<◌, Some, drop, ap, sym, ◌∙◌, arith}
use Rattle.field_codec.specs.Fractions.{fraction_text}
use Rattle.field_codec.proofs.Unscaled.{fine_few, other_behind, parts_read, times_below}
use Rattle.field_codec.proofs.PlacedPoint.{parts_small}
use Rattle.field_codec.proofs.decimal.with_fraction.Goals as goal
use Rattle.field_codec.proofs.decimal.with_fraction.Goals.{After-power-2}

pub returns-then-fine-digits-clause-is : goal.returns-then-fine-digits-clause-is
returns-then-fine-digits-clause-is c =
    let text = c.args.text.now in
    let digits = c.in_ok-digits.digits.now in
    let fraction = c.short_front-fraction in
    let found : fraction_text c.args.places (drop c.args.count text) ≡ Some digits =
    ap (fraction_text c.args.places) (sym c.split_at.ensures.back) ∙ sym c.in_ok-digits.ensures in
    sym (other_behind c.args.places c.args.count text digits fraction.result.1
    (record { len = c.requires.count; found = found; fine_len = fraction.ensures.count }) c.if-fine-digits.true)

pub overflow_mul-result : goal.overflow_mul-result
overflow_mul-result c =
    omega (
      arith,
      times_below c.args.whole c.args.count c.args.places 18 c.power.result c.requires.small
          c.requires.few c.power.ensures,
    )

-- the number behind the point is small
fraction_small : (c : After-power-2) → c.short_front-fraction.result.0 * c.power-2.result < 10 ^ 18
fraction_small c =
    let text = c.args.text.now in
    let digits = c.in_ok-digits.digits.now in
    let fraction = c.short_front-fraction in
    let found : fraction_text c.args.places (drop c.args.count text) ≡ Some digits =
    ap (fraction_text c.args.places) (sym c.split_at.ensures.back) ∙ sym c.in_ok-digits.ensures in
    let few =
    fine_few c.args.places c.args.count text digits fraction.result.1
    (record { len = c.requires.count; found = found; fine_len = fraction.ensures.count }) in
    times_below fraction.result.0 fraction.result.1 (c.args.places - fraction.result.1) 18 c.power-2.result fraction.ensures.small
    (omega (arith, few, c.requires.few)) c.power-2.ensures

pub overflow_mul-result-2 : goal.overflow_mul-result-2
overflow_mul-result-2 c = omega (arith, fraction_small c)

pub overflow_add-result : goal.overflow_add-result
overflow_add-result c =
    let high =
    times_below c.args.whole c.args.count c.args.places 18 c.power.result c.requires.small
    c.requires.few c.power.ensures in
    omega (arith, fraction_small c, high)

pub returns-clause-is : goal.returns-clause-is
returns-clause-is c =
    let text = c.args.text.now in
    let digits = c.in_ok-digits.digits.now in
    let fraction = c.short_front-fraction in
    let found : fraction_text c.args.places (drop c.args.count text) ≡ Some digits =
    ap (fraction_text c.args.places) (sym c.split_at.ensures.back) ∙ sym c.in_ok-digits.ensures in
    sym (parts_read c.args.places c.args.count text digits fraction.result.1 c.args.whole fraction.result.0 (c.args.whole * c.power.result)
    (fraction.result.0 * c.power-2.result)
    (record { len = c.requires.count; found = found; fine_len = fraction.ensures.count }) c.if-count-eq0.false c.if-fine-digits.false
    c.requires.value fraction.ensures.value
    (ap (λ (x : ℕ). c.args.whole * x) c.power.ensures) (ap (λ (x : ℕ). fraction.result.0 * x) c.power-2.ensures))

pub returns-clause-small : goal.returns-clause-small
returns-clause-small c =
    let text = c.args.text.now in
    let digits = c.in_ok-digits.digits.now in
    let fraction = c.short_front-fraction in
    let found : fraction_text c.args.places (drop c.args.count text) ≡ Some digits =
    ap (fraction_text c.args.places) (sym c.split_at.ensures.back) ∙ sym c.in_ok-digits.ensures in
    let few =
    fine_few c.args.places c.args.count text digits fraction.result.1
    (record { len = c.requires.count; found = found; fine_len = fraction.ensures.count }) in
    parts_small c.args.whole c.args.count fraction.result.0 fraction.result.1 c.args.places c.power.result c.power-2.result c.requires.small
    fraction.ensures.small few c.requires.few c.power.ensures c.power-2.ensures
