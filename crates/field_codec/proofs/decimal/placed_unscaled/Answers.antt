use Rattle.std.proofs.Common.{◌≡◌, ◌+◌, ◌-◌, ◌<◌, length, sym, arith}
use Rattle.field_codec.proofs.PlacedPoint.{all_left, fraction_fits, other_whole, pointed_read, still_below, whole_fits}
use Rattle.field_codec.proofs.decimal.placed_unscaled.Goals as goal

pub with_few_digits-requires : goal.with_few_digits-requires
with_few_digits-requires c =
    let text = c.args.text.now in
    let point = length text - 1 - c.args.places in
    whole_fits c.args.places point text (omega arith) (omega arith) c.requires.point c.requires.few

pub returns-in_err-whole-clause-is : goal.returns-in_err-whole-clause-is
returns-in_err-whole-clause-is c =
    let text = c.args.text.now in
    let point = length text - 1 - c.args.places in
    rw c.from_residual.ensures
    (sym (other_whole c.args.places point text (omega arith) (omega arith) c.requires.point c.in_err-whole.ensures.other))

pub with_digits-requires : goal.with_digits-requires
with_digits-requires c =
    let text = c.args.text.now in
    let point = length text - 1 - c.args.places in
    let some : 0 < c.args.places = omega arith in
    let len : length text ≡ point + 1 + c.args.places = omega arith in
    let is = c.requires.point in
    rw (all_left c.args.places point text some len is)
    (fraction_fits c.args.places point text some len is c.in_ok-whole.whole c.requires.few c.in_ok-whole.ensures.small)

pub returns-clause-is : goal.returns-clause-is
returns-clause-is c =
    let text = c.args.text.now in
    let point = length text - 1 - c.args.places in
    let some : 0 < c.args.places = omega arith in
    let len : length text ≡ point + 1 + c.args.places = omega arith in
    let is = c.requires.point in
    let all = all_left c.args.places point text some len is in
    let whole = c.in_ok-whole in
    let fraction = c.with_digits in
    let digits = rw all at fraction.ensures.digits in
    let value = rw all at fraction.ensures.value in
    let other = rw all at fraction.ensures.other in
    pointed_read c.args.places point text some len is whole.whole fraction.result (omega arith) whole.ensures.digits whole.ensures.value digits value other

pub returns-clause-small : goal.returns-clause-small
returns-clause-small c =
    let text = c.args.text.now in
    let point = length text - 1 - c.args.places in
    let some : 0 < c.args.places = omega arith in
    let len : length text ≡ point + 1 + c.args.places = omega arith in
    let is = c.requires.point in
    let whole = c.in_ok-whole in
    let small = rw (all_left c.args.places point text some len is) at c.with_digits.ensures.small in
    still_below c.with_digits.result _ _ (fraction_fits c.args.places point text some len is whole.whole c.requires.few whole.ensures.small) small
