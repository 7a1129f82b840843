use Rattle.std.proofs.Common.{◌<◌, ◌≡◌, ℕ, arith}
use Rattle.data_types.specs.promise.Value.{Value}
use Rattle.value_text.specs.Lengths.{text_length}
use Rattle.value_text.proofs.LengthSums.{same-lines}
use Rattle.value_text.proofs.lengths.same_lines.Goals as goal

pub returns : goal.returns
returns c =
    λ (item : ℕ → Value) (same : (j : ℕ) → j < c.args.count → c.args.one ≡ text_length (item j)).
    omega (arith, c.plus-2.ensures, c.plus.ensures, c.counted.ensures, c.times.ensures, same-lines item c.args.one c.args.count same)
