use Rattle.std.proofs.Common.{◌≡◌, ◌+◌, ◌-◌, ap, arith, sym, ◌∙◌}
use Rattle.std.specs.List.{flat_map}
use Rattle.layout_rules.specs.promise.Values.{each}
use Rattle.run_ends.specs.RunCols.{array_in, kinds_in}
use Rattle.run_ends.specs.Runs.{run_value}
use Rattle.data_types.specs.promise.ValueTexts.{value_line}
use Rattle.value_text.proofs.Parts.{appended}
use Rattle.tree_top.proofs.Running.{lines-joined, reaches-end}
use Rattle.tree_top.proofs.flat.push_items.Goals as goal

pub loop-i-preserved : goal.loop-i-preserved
loop-i-preserved c =
    let u = kinds_in c.args.col.now in
    let array = array_in c.args.col.now in
    let f = run_value u array in
    let i = c.loop-i.i in
    let stop = c.run_from-at.result.stop in
    let above = c.run_from-at.ensures.above in
    let reaches = c.run_from-at.ensures.reaches in
    let n = stop - i in
    let e : i + n ≡ stop = omega (arith, above) in (
      appended c.args.text.now (flat_map value_line (each f 0 i)) c.loop-i.text c.push_run.new.text (flat_map value_line (each f i n)) _
          c.in_ok-push_run.ensures c.loop-i.invariant.0 (sym (lines-joined f i n) ∙ ap (λ k. flat_map value_line (each f 0 k)) e),
      reaches-end u array i c.run_from-at.result.run stop above reaches,
      omega (arith, reaches.within, c.count_items-count.ensures),
    )
