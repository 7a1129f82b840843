use Rattle.std.proofs.Common.{◌<◌, ◌∙◌, ℕ, subst, sym, true≢false, arith}
use Rattle.std.specs.Prelude.{IsUtf8}
use Rattle.raw_array.specs.promise.Members.{members_of}
use Rattle.layout_check.specs.Scans.{AreTexts}
use Rattle.layout_check.proofs.Loops.{at_last}
use Rattle.layout_check.proofs.ViewsScanned.{AreTexts-none, AreTexts-more}
use Rattle.layout_check.proofs.view_texts.are_texts.Goals as goal

few : (k n : ℕ) → k < n → n < 4294967296 → k < 9223372036854775808
few k n l m = omega (arith, l, m)

pub loop-k-init : goal.loop-k-init
loop-k-init c = AreTexts-none (members_of c.args.node.now.array.now)

pub sized_data-requires-clause-inside : goal.sized_data-requires-clause-inside
sized_data-requires-clause-inside c = subst (λ n. c.loop-k.k < n) c.data_buffers-k-end.ensures.count c.loop-k-test.true

pub sized_data-requires-clause-few : goal.sized_data-requires-clause-few
sized_data-requires-clause-few c = few c.loop-k.k c.data_buffers-k-end.result c.loop-k-test.true c.data_buffers-k-end.ensures.few

pub sized_data-requires-clause-lengths : goal.sized_data-requires-clause-lengths
sized_data-requires-clause-lengths c = c.requires.lengths

pub sized_data-requires-clause-named : goal.sized_data-requires-clause-named
sized_data-requires-clause-named c = c.requires.named

pub returns-then-not-is_text : goal.returns-then-not-is_text
returns-then-not-is_text c = λ h. absurd (true≢false (sym h))

pub loop-k-preserved : goal.loop-k-preserved
loop-k-preserved c =
    AreTexts-more (members_of c.args.node.now.array.now) c.loop-k.k c.loop-k.invariant
    (subst IsUtf8 c.sized_data.ensures (c.is_text.ensures.0 c.if-not-is_text.false))

pub returns : goal.returns
returns c =
    λ h. subst (AreTexts (members_of c.args.node.now.array.now))
    (at_last c.loop-k.k c.data_buffers-k-end.result c.loop-k-test.false c.loop-k.auto.k-end ∙ c.data_buffers-k-end.ensures.count) c.loop-k.invariant
