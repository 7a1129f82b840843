use Rattle.std.proofs.Common.{ℕ, length, arith}
use Rattle.data_types.specs.promise.Value.{Value}
use Rattle.value_text.specs.Lengths.{AreLengths}
use Rattle.value_text.proofs.LengthSums.{more-lines}
use Rattle.value_text.proofs.lengths.own_lines.Goals as goal

pub loop-i-preserved : goal.loop-i-preserved
loop-i-preserved c =
    let lengths = c.args.lengths.now in
    let i = c.loop-i.i in
    λ (item : ℕ → Value) (known : AreLengths lengths item (length lengths)).
    omega (arith, c.plus-sum.ensures, c.plus.ensures, known.each i c.loop-i-test.true, c.loop-i.invariant item known, more-lines item i)
