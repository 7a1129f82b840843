use Rattle.std.proofs.Common.{◌≡◌, ◌∙◌, ◌+◌, ◌≤◌, [], ◌∷◌, ℕ, length, get_or, take, ap, arith, length-append}
use Rattle.value_text.specs.Escapes.{escapes}
use Rattle.value_text.proofs.EscapeCounts.{counts-more, escapes-more}
use Rattle.value_text.proofs.views.escape_counts.Goals as goal

pub loop-i-preserved : goal.loop-i-preserved
loop-i-preserved c =
    let bytes = c.args.bytes.now in
    let counts = c.loop-i.counts.items in
    let i = c.loop-i.i in
    let x = c.loop-i.count + c.escapes_in-count.result in
    let before = c.loop-i.invariant in
    let items = c.in_ok-push-2.ensures.items in
    let total : x ≡ escapes (take (i + 1) bytes) =
    omega (arith, before.1, c.escapes_in-count.ensures.is, escapes-more bytes i c.loop-i-test.true) in (
      omega (arith, ap length items, length-append counts (x ∷ []), before.0),
      total,
      omega (arith, before.2, c.escapes_in-count.ensures.few),
      λ (n : ℕ) (upto : n ≤ i + 1). ap (λ xs. get_or xs n 0) items ∙ counts-more counts bytes i x before.0 before.3 total n upto,
    )
