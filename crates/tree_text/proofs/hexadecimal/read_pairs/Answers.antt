use Rattle.std.proofs.Common.{◌≡◌, ◌+◌, ◌*◌, ◌<◌, ◌∙◌, ap, length, get_or, arith}
use Rattle.std.specs.Char.{digit_value}
use Rattle.std.proofs.lemmas.List.{length-set}
use Rattle.tree_text.proofs.LowerHex.{pairs-more, pairs-on_true}
use Rattle.tree_text.proofs.hexadecimal.read_pairs.Goals as goal

pub loop-i-preserved : goal.loop-i-preserved
loop-i-preserved c =
    let text = c.args.text.now in
    let room = c.loop-i.room in
    let i = c.loop-i.i in
    let long = c.loop-i.invariant.0 in
    let byte = c.value_of.result * 16 + c.value_of-in-loop-i.result in
    let inside : i < length room = omega (arith, c.loop-i-test.true, c.loop-i.auto.i-end, long) in
    let sized : length text ≡ 2 * length room = omega (arith, c.requires, long) in (
      length-set room i byte ∙ long,
      pairs-more text room i byte c.loop-i.all c.is_lower_digit.result c.is_lower_digit-in-loop-i.result inside sized c.is_lower_digit.ensures
          c.is_lower_digit-in-loop-i.ensures
          (λ a b. ap (λ n. n * 16 + c.value_of-in-loop-i.result) (c.value_of.ensures.value a)
          ∙ ap (λ n. digit_value (get_or text (2 * i) 0) * 16 + n) (c.value_of-in-loop-i.ensures.value b))
          c.loop-i.invariant.1,
    )

pub returns-clause-found : goal.returns-clause-found
returns-clause-found c =
    let text = c.args.text.now in
    let room = c.loop-i.room in
    let long = c.loop-i.invariant.0 in
    let sized : length text ≡ 2 * length room = omega (arith, c.requires, long) in
    let ended : c.loop-i.i ≡ length room = omega (arith, c.loop-i-test.false, c.loop-i.auto.i-end, long) in
    pairs-on_true text room c.loop-i.i c.loop-i.all sized ended c.loop-i.invariant.1
