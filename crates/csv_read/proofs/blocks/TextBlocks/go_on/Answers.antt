use Rattle.std.proofs.Common.{◌++◌, ◌∙◌, ap, sym, arith}
use Rattle.std.proofs.lemmas.List.{drop_all}
use Rattle.csv_read.specs.TextBlocks.{later_bytes}
use Rattle.csv_read.proofs.LaterBlocks.{later-end}
use Rattle.csv_read.proofs.blocks.TextBlocks.go_on.Goals as goal

pub returns-in-Some-clause-left : goal.returns-in-Some-clause-left
returns-in-Some-clause-left c =
    let left = c.args.self.now in
    let read = c.if-self-len.false in
    sym (later-end c.pop.new.self.items c.in-Some.block) ∙ ap later_bytes (sym c.in-Some.ensures.items)
    ∙ ap (λ front. front ++ later_bytes left.later.items) (sym (drop_all left.at left.block.items (omega (arith, read, c.len.ensures))))
