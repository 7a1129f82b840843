use Rattle.std.proofs.Common.{ℕ, ◌∙◌, ◌+◌, ◌<◌, length, ap, arith, sym}
use Rattle.data_types.specs.promise.Value.{Value}
use Rattle.layout_rules.specs.promise.Values.{each}
use Rattle.value_text.specs.Lengths.{AreLengths, capped}
use Rattle.value_text.proofs.Parts.{list-more, parts}
use Rattle.value_text.proofs.lengths.own_list.Goals as goal

pub loop-k-preserved : goal.loop-k-preserved
loop-k-preserved c =
    let lengths = c.args.lengths.now in
    let from = c.args.from in
    let k = c.loop-k.k in
    let inside : from + k < length lengths = omega (arith, c.requires, c.loop-k-test.true) in
    λ (item : ℕ → Value) (known : AreLengths lengths item (length lengths)).
    c.with_part-sum.ensures (parts (each item from k)) (item (from + k)) (c.loop-k.invariant item known) (known.each (from + k) inside)
    ∙ ap (λ text. capped (length text)) (sym (list-more item from k))
