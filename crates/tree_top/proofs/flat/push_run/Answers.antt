use Rattle.std.proofs.Common.{◌≡◌, ◌∙◌, ◌+◌, ◌-◌, ◌<◌, ◌++◌, ap, arith, sym, append-nil}
use Rattle.std.specs.List.{flat_map}
use Rattle.layout_rules.specs.promise.Values.{each, value_at}
use Rattle.run_ends.specs.RunCols.{array_in, kinds_in}
use Rattle.run_ends.specs.Runs.{run_value}
use Rattle.tree_model.specs.promise.TreeParts.{child_at}
use Rattle.data_types.specs.promise.ValueTexts.{value_line}
use Rattle.value_text.proofs.Parts.{appended, lines-more}
use Rattle.tree_top.proofs.flat.push_run.Goals as goal

pub loop-j-preserved : goal.loop-j-preserved
loop-j-preserved c =
    let u = kinds_in c.args.col.now in
    let array = array_in c.args.col.now in
    let f = run_value u array in
    let i = c.args.i in
    let j = c.loop-j.j in
    let n = j - i in
    let at : i + n ≡ j = omega (arith, c.loop-j.auto.j) in
    let next : n + 1 ≡ j + 1 - i = omega (arith, at) in
    let reaches = c.requires.reaches in
    let same : f j ≡ f i =
    ap (value_at u.values (child_at array 1)) (reaches.same j (omega (arith, at)) c.loop-j-test.true ∙ sym (reaches.same i (omega arith) c.requires.above)) in
    let line : c.into_bytes-line.result.items ≡ value_line (f (i + n)) =
    c.into_bytes-line.ensures.bytes ∙ c.in_ok-push_item.ensures ∙ ap (λ text. text ++ value_line (f i)) c.new-line.ensures ∙ ap value_line (sym (ap f at ∙ same)) in
    appended c.args.text.now (flat_map value_line (each f i n)) c.loop-j.text c.push_bytes.new.self (value_line (f (i + n))) _
    (c.in_ok-push_bytes.ensures ∙ ap (λ bytes. c.loop-j.text ++ bytes) (c.deref.ensures.value ∙ line)) c.loop-j.invariant
    (sym (lines-more f i n) ∙ ap (λ k. flat_map value_line (each f i k)) next)
