use Rattle.std.proofs.Common.{List, ℕ, drop, sym, ap, ◌∙◌}
use Rattle.tree_text.specs.promise.Standing.{read_bytes}
use Rattle.tree_text.proofs.TokenBytes.{before, before_more}
use Rattle.tree_text.proofs.tokens.spelled_bytes.Goals as goal

pub loop-at-preserved : goal.loop-at-preserved
loop-at-preserved c =
    let done = c.loop-at.bytes.items in
    let rest = read_bytes (drop c.in-Some.next c.args.text.now) in
    record {
      within = c.in-Some.ensures.within;
      read = c.loop-at.invariant.read ∙ ap (before done) c.in-Some.ensures.read ∙ before_more done c.in-Some.byte rest
          ∙ ap (λ (xs : List ℕ). before xs rest) (sym c.in_ok-push-in-Some.ensures.items);
    }
