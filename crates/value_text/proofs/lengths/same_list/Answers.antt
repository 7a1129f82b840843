use Rattle.std.proofs.Common.{◌≡◌, ◌+◌, ◌-◌, ◌<◌, ℕ, arith}
use Rattle.data_types.specs.promise.Value.{Value}
use Rattle.layout_rules.specs.promise.Values.{each}
use Rattle.value_text.specs.Lengths.{text_length}
use Rattle.value_text.proofs.LengthSums.{list-long, same-parts}
use Rattle.value_text.proofs.lengths.same_list.Goals.{else-count-gt0, then-count-gt0}
use Rattle.value_text.proofs.lengths.same_list.Goals as goal

pub returns : goal.returns
returns c =
    let commas : c.if-count-gt0.commas ≡ c.args.count - 1 =
    elim c.if-count-gt0.branch [
      | then-count-gt0 w ↦ omega (arith, w.commas-is, w.if-count-gt0.true)
      | else-count-gt0 w ↦ omega (arith, w.commas-is, w.if-count-gt0.false)
    ] in
    λ (item : ℕ → Value) (from : ℕ) (same : (j : ℕ) → j < c.args.count → c.args.one ≡ text_length (item (from + j))).
    omega (
      arith,
      commas,
      c.plus-2.ensures,
      c.plus.ensures,
      c.counted.ensures,
      c.times.ensures,
      list-long (each item from c.args.count),
      same-parts item from c.args.one c.args.count same,
    )
