use Rattle.std.proofs.Common.{◌++◌, ◌∙◌, ap, append_assoc, subst, sym, All}
use Rattle.std.proofs.lemmas.List.Elements.{All-push}
use Rattle.csv_read.specs.TextBlocks.{IsFilled, later_bytes}
use Rattle.csv_read.proofs.LaterBlocks.{later-end}
use Rattle.csv_read.proofs.blocks.TextBlocks.new.Goals as goal

pub loop-later-preserved : goal.loop-later-preserved
loop-later-preserved c =
    let before = c.loop-later.invariant in
    let last = c.in_ok-last_block.field-0 in
    let rest = c.last_block.new.text.items in
    let later = c.loop-later.later.items in
    record {
      all = ap (λ blocks. rest ++ later_bytes blocks) c.in_ok-push.ensures.items ∙ ap (λ bytes. rest ++ bytes) (later-end later last)
          ∙ sym (append_assoc rest last.items (later_bytes later))
          ∙ ap (λ bytes. bytes ++ later_bytes later) (sym c.in_ok-last_block.ensures.cut) ∙ before.all;
      filled = subst (λ blocks. All IsFilled blocks) (sym c.in_ok-push.ensures.items)
          (All-push IsFilled later last before.filled c.in_ok-last_block.ensures.some);
    }
