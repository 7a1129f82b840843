use Rattle.std.proofs.Common.{◌≡◌, ◌+◌, ◌-◌, ◌*◌, ◌<◌, ◌≤◌, ℕ, length, ap, arith, sym, ◌∙◌}
use Rattle.std.specs.List.{flat_map}
use Rattle.layout_rules.specs.promise.Values.{each, value_at}
use Rattle.run_ends.specs.RunCols.{array_in, kinds_in}
use Rattle.run_ends.specs.Runs.{run_value}
use Rattle.tree_model.specs.promise.TreeParts.{child_at}
use Rattle.data_types.specs.promise.ValueTexts.{value_line}
use Rattle.tree_top.proofs.Running.{capped-times, reaches-end, same-lines-more}
use Rattle.tree_top.proofs.flat.text_length.Goals as goal

pub loop-i-preserved : goal.loop-i-preserved
loop-i-preserved c =
    let u = kinds_in c.args.col.now in
    let array = array_in c.args.col.now in
    let f = run_value u array in
    let i = c.loop-i.i in
    let stop = c.run_from-at.result.stop in
    let reaches = c.run_from-at.ensures.reaches in
    let above = c.run_from-at.ensures.above in
    let n = stop - i in
    let e : i + n ≡ stop = omega (arith, above) in
    let same : (j : ℕ) → i ≤ j → j < i + n → f j ≡ f i =
    λ j from to. ap (value_at u.values (child_at array 1)) (reaches.same j from (omega (arith, to, e)) ∙ sym (reaches.same i (omega arith) above)) in
    let long = same-lines-more f i n same in
    let at = ap (λ k. length (flat_map value_line (each f 0 k))) e in
    let times = capped-times n (length (value_line (f i))) in
    let made = ap (λ (one : ℕ). n * one) c.line_length.ensures in (
      omega (arith, c.plus-sum.ensures, c.times.ensures, c.line_length.ensures, c.loop-i.invariant.0, long, at, times, made),
      reaches-end u array i c.run_from-at.result.run stop above reaches,
      omega (arith, reaches.within, c.count_items-count.ensures),
    )
